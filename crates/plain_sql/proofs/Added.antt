-- A table's text with one column more behind its last.
use Rattle.std.proofs.Common.{◌≡◌, ℕ, ◌+◌, ◌<◌, take, drop, length, arith, List, [], ◌∷◌, ◌++◌, codes, refl, sym, subst, ap, ◌∙◌, inl, inr, append_assoc}
use Rattle.std.specs.List.{AllByRecursion}
use Rattle.sql_token.specs.declared.token.Token.{Token}
use Rattle.sql_token.specs.declared.token.TokenKind.TheVariants.{Word}
use Rattle.sql_token.specs.declared.keyword.Keyword.{Keyword}
use Rattle.sql_token.specs.Names.{folded}
use Rattle.sql_token.specs.Token.{span, AreTokens}
use Rattle.sql_token.proofs.Grown.{moved}
use Rattle.sql_token.proofs.Inserted.{inserted, comma_at, word_behind, inserted_tokens, last_within, spans_stay, spans_move, span_comma, span_word}
use Rattle.sql_token.proofs.Stands.{IsSimple}
use Rattle.sql_token.specs.Fixed.{IsFixed, IsSign}
use Rattle.plain_sql.specs.Words.{IsPlainName, IsPlainWord}
use Rattle.plain_sql.specs.TableText.{ArePlain, IsPlainColumn, AreColumns, SpellsTable, last_end}
use Rattle.plain_sql.proofs.ColumnsLemmas.{IsMadeOf}
use Rattle.common_laws.proofs.Each.{all_append, all_behind, all_before}

-- ---- what the same bytes spell

-- the token has the same bytes in both texts
abbrev IsSame : List ℕ → List ℕ → Token → Type 0
IsSame text new t = span new t ≡ span text t

-- a token of the bytes of a fixed word is that word
fixed_kept : (text new : List ℕ) (word : Keyword) (t : Token) → IsSame text new t → IsFixed text word t → IsFixed new word t
fixed_kept text new word t same is = record { kind = is.kind; spelled = ap folded same ∙ is.spelled }

-- a token of the bytes of a sign is that sign
sign_kept : (text new sign : List ℕ) (t : Token) → IsSame text new t → IsSign text sign t → IsSign new sign t
sign_kept text new sign t same is = record { kind = is.kind; spelled = same ∙ is.spelled }

-- a Word of the bytes of a plain word spells its name
word_spells : (text name : List ℕ) (t : Token) → t.kind ≡ Word → span text t ≡ name → IsPlainWord name → IsPlainName text t name
word_spells text name t kind spelled plain = record {
  kind = kind;
  free = λ word same. plain.free word (ap folded (sym spelled) ∙ same);
  spelled = sym spelled;
}

-- a token of the bytes of a name spells that name
name_kept : (text new name : List ℕ) (t : Token) → IsSame text new t → IsPlainName text t name → IsPlainName new t name
name_kept text new name t same is = record {
  kind = is.kind;
  free = λ word spelled. is.free word (ap folded (sym same) ∙ spelled);
  spelled = is.spelled ∙ sym same;
}

-- plain words of the same bytes are plain words
plain_kept : (text new : List ℕ) (tokens : List Token) → AllByRecursion (IsSame text new) tokens → ArePlain text tokens → ArePlain new tokens
plain_kept text new [] same plain = tt
plain_kept text new (t ∷ tokens) same plain =
    ((plain.0.0, name_kept text new plain.0.0 t same.0 plain.0.1), plain_kept text new tokens same.1 plain.1)

-- a column of the same bytes is a column of the same name
column_kept : (text new : List ℕ) (tokens : List Token) (name : List ℕ) → AllByRecursion (IsSame text new) tokens → IsPlainColumn text tokens name → IsPlainColumn new tokens name
column_kept text new tokens name same is =
    let all = subst (AllByRecursion (IsSame text new)) is.whole same in
    record {
      first = is.first;
      others = is.others;
      whole = is.whole;
      named = name_kept text new name is.first all.0 is.named;
      plain = plain_kept text new is.others all.1 is.plain;
    }

-- columns of the same bytes are columns of the same names
columns_kept : (text new : List ℕ) (tokens : List Token) (names : List (List ℕ)) → AllByRecursion (IsSame text new) tokens → AreColumns text tokens names
    → AreColumns new tokens names
columns_kept text new tokens [] same columns = columns
columns_kept text new tokens (n ∷ []) same columns = column_kept text new tokens n same columns
columns_kept text new tokens (n ∷ m ∷ ms) same (column, comma, others, whole, is, sign, columns) =
    let all = subst (AllByRecursion (IsSame text new)) whole same in
    let behind = all_behind (IsSame text new) column (comma ∷ others) all in (
      column,
      comma,
      others,
      whole,
      column_kept text new column n (all_before (IsSame text new) column (comma ∷ others) all) is,
      sign_kept text new (codes ",") comma behind.0 sign,
      columns_kept text new others (m ∷ ms) behind.1 columns,
    )

-- ---- one column more

-- behind the last column a comma and a name make one column more
column_behind : (text : List ℕ) (tokens : List Token) (names : List (List ℕ)) (comma word : Token) (name : List ℕ) → AreColumns text tokens names
    → IsSign text (codes ",") comma → IsPlainName text word name → AreColumns text (tokens ++ comma ∷ word ∷ []) (names ++ name ∷ [])
column_behind text tokens [] comma word name columns sign named = absurd columns
column_behind text tokens (n ∷ []) comma word name columns sign named =
    (tokens, comma, word ∷ [], refl, columns, sign, record { first = word; others = []; whole = refl; named = named; plain = tt })
column_behind text tokens (n ∷ m ∷ ms) comma word name (column, mark, others, whole, is, marks, columns) sign named = (
  column,
  mark,
  others ++ comma ∷ word ∷ [],
  ap (λ l. l ++ comma ∷ word ∷ []) whole ∙ append_assoc column (mark ∷ others) (comma ∷ word ∷ []),
  is,
  marks,
  column_behind text others (m ∷ ms) comma word name columns sign named,
)

-- columns are at least one
pub columns_some : (text : List ℕ) (tokens : List Token) (names : List (List ℕ)) → AreColumns text tokens names → 0 < length names
columns_some text tokens [] columns = absurd columns
columns_some text tokens (n ∷ names) columns = omega arith

-- ---- the tokens of columns

-- the last of the tokens is a Word
record EndsInWord (tokens : List Token) : Type 0 where
  front : List Token
  last : Token
  whole : tokens ≡ front ++ last ∷ []
  kind : last.kind ≡ Word

-- the last of the tokens ends where they do
last_end-last : (front : List Token) (last : Token) → last_end (front ++ last ∷ []) ≡ last.end
last_end-last [] last = refl
last_end-last (t ∷ []) last = refl
last_end-last (t ∷ u ∷ front) last = last_end-last (u ∷ front) last

-- plain words end in a Word
plain_ends : (text : List ℕ) (first : Token) (others : List Token) → first.kind ≡ Word → ArePlain text others → EndsInWord (first ∷ others)
plain_ends text first [] kind plain = record { front = []; last = first; whole = refl; kind = kind }
plain_ends text first (t ∷ others) kind plain =
    let ends = plain_ends text t others plain.0.1.kind plain.1 in
    record { front = first ∷ ends.front; last = ends.last; whole = ap (λ l. first ∷ l) ends.whole; kind = ends.kind }

-- columns end in a Word
columns_end_in_word : (text : List ℕ) (tokens : List Token) (names : List (List ℕ)) → AreColumns text tokens names → EndsInWord tokens
columns_end_in_word text tokens [] columns = absurd columns
columns_end_in_word text tokens (n ∷ []) columns = subst EndsInWord (sym columns.whole) (plain_ends text columns.first columns.others columns.named.kind columns.plain)
columns_end_in_word text tokens (n ∷ m ∷ ms) (column, comma, others, whole, is, sign, columns) =
    let ends = columns_end_in_word text others (m ∷ ms) columns in
    record {
      front = column ++ comma ∷ ends.front;
      last = ends.last;
      whole = whole ∙ ap (λ l. column ++ comma ∷ l) ends.whole ∙ sym (append_assoc column (comma ∷ ends.front) (ends.last ∷ []));
      kind = ends.kind;
    }

-- plain words are Words
plain_simple : (text : List ℕ) (tokens : List Token) → ArePlain text tokens → AllByRecursion (IsSimple text) tokens
plain_simple text [] plain = tt
plain_simple text (t ∷ tokens) plain = (inl plain.0.1.kind, plain_simple text tokens plain.1)

-- the tokens of a column are Words
column_simple : (text : List ℕ) (tokens : List Token) (name : List ℕ) → IsPlainColumn text tokens name → AllByRecursion (IsSimple text) tokens
column_simple text tokens name is = subst (AllByRecursion (IsSimple text)) (sym is.whole) (inl is.named.kind, plain_simple text is.others is.plain)

-- the tokens of columns are Words and commas
columns_simple : (text : List ℕ) (tokens : List Token) (names : List (List ℕ)) → AreColumns text tokens names → AllByRecursion (IsSimple text) tokens
columns_simple text tokens [] columns = absurd columns
columns_simple text tokens (n ∷ []) columns = column_simple text tokens n columns
columns_simple text tokens (n ∷ m ∷ ms) (column, comma, others, whole, is, sign, columns) =
    subst (AllByRecursion (IsSimple text)) (sym whole)
    (all_append (IsSimple text) column (comma ∷ others) (column_simple text column n is)
    (inr (sign.kind, inr (inr sign.spelled)), columns_simple text others (m ∷ ms) columns))

-- ---- the whole

-- where the tokens in front of the `)` are known up to the last, the text with one column more is a table's
added_behind : (text name : List ℕ) (columns : List (List ℕ)) (a b t l : Token) (xs : List Token) (last z : Token) (column : List ℕ)
    → AreTokens text (a ∷ b ∷ t ∷ l ∷ xs ++ last ∷ z ∷ []) → IsMadeOf text a b t l (xs ++ last ∷ []) z name columns last.end → last.kind ≡ Word → IsPlainWord column
    → SpellsTable (inserted text last.end column) name (columns ++ column ∷ []) (last.end + 2 + length column)
added_behind text name columns a b t l xs last z column tokens made kind plain =
    let new : List ℕ = inserted text last.end column in
    let before : List Token = a ∷ b ∷ t ∷ l ∷ xs in
    let inside : List Token = xs ++ last ∷ [] in
    let comma : Token = comma_at last.end in
    let word : Token = word_behind last.end (length column) in
    let right : Token = moved (2 + length column) z in
    let within = last_within text before (z ∷ []) last tokens in
    let words : AllByRecursion (IsSimple text) (inside ++ z ∷ []) =
    all_append (IsSimple text) inside (z ∷ []) (columns_simple text inside columns made.are_columns) (inr (made.frame.closes.kind, inr (inl made.frame.closes.spelled)), tt) in
    let simple : AllByRecursion (IsSimple text) (a ∷ b ∷ t ∷ l ∷ xs ++ last ∷ z ∷ []) = (
      inl made.frame.creates.kind,
      (
        inl made.frame.table.kind,
        (
          inl made.named.kind,
          (
            inr (made.frame.opens.kind, inl made.frame.opens.spelled),
            subst (AllByRecursion (IsSimple text)) (append_assoc xs (last ∷ []) (z ∷ [])) words,
          ),
        ),
      ),
    ) in
    let all : AreTokens new (a ∷ b ∷ t ∷ l ∷ xs ++ last ∷ comma ∷ word ∷ right ∷ []) =
    inserted_tokens text column before (z ∷ []) last tokens simple kind plain.word in
    let stay : AllByRecursion (IsSame text new) (a ∷ b ∷ t ∷ l ∷ xs ++ last ∷ []) = spans_stay text column before (z ∷ []) last tokens in
    let move = spans_move text column before (z ∷ []) last tokens in
    let seam : xs ++ last ∷ comma ∷ word ∷ right ∷ [] ≡ inside ++ comma ∷ word ∷ [] ++ right ∷ [] =
    sym (append_assoc xs (last ∷ []) (comma ∷ word ∷ right ∷ [])) ∙ sym (append_assoc inside (comma ∷ word ∷ []) (right ∷ [])) in
    let ends : last_end (inside ++ comma ∷ word ∷ []) ≡ word.end =
    ap last_end (sym (append_assoc inside (comma ∷ []) (word ∷ []))) ∙ last_end-last (inside ++ comma ∷ []) word in
    record {
      create_word = a;
      table_word = b;
      title = t;
      left = l;
      inside = inside ++ comma ∷ word ∷ [];
      right = right;
      tokens = subst (AreTokens new) (ap (λ r. a ∷ b ∷ t ∷ l ∷ r) seam) all;
      creates = fixed_kept text new _ a stay.0 made.frame.creates;
      table = fixed_kept text new _ b stay.1.0 made.frame.table;
      named = name_kept text new name t stay.1.1.0 made.named;
      opens = sign_kept text new (codes "(") l stay.1.1.1.0 made.frame.opens;
      are_columns = column_behind new inside columns comma word column (columns_kept text new inside columns stay.1.1.1.1 made.are_columns)
          (record { kind = refl; spelled = span_comma text column last.end within })
          (word_spells new column word refl (span_word text column last.end within) plain);
      closes = record { kind = made.frame.closes.kind; spelled = move.0 ∙ made.frame.closes.spelled };
      ends = omega (arith, ends);
    }

-- a table's text with `, column` put in behind its last column spells the same table with one column more
pub spells_added : (text name : List ℕ) (columns : List (List ℕ)) (end : ℕ) (column : List ℕ) → SpellsTable text name columns end → IsPlainWord column
    → SpellsTable (take end text ++ codes ", " ++ column ++ drop end text) name (columns ++ column ∷ []) (end + 2 + length column)
spells_added text name columns end column is plain =
    let last = columns_end_in_word text is.inside columns is.are_columns in
    let at : end ≡ last.last.end = is.ends ∙ ap last_end last.whole ∙ last_end-last last.front last.last in
    let front = ap (λ i. is.create_word ∷ is.table_word ∷ is.title ∷ is.left ∷ i ++ is.right ∷ []) last.whole
    ∙ ap (λ r. is.create_word ∷ is.table_word ∷ is.title ∷ is.left ∷ r) (append_assoc last.front (last.last ∷ []) (is.right ∷ [])) in
    let those : List Token → Type 0 = λ i. AreColumns text i columns in
    let table = added_behind text name columns is.create_word is.table_word is.title is.left last.front last.last is.right column
    (subst (AreTokens text) front is.tokens)
    (record {
      frame = record { creates = is.creates; table = is.table; opens = is.opens; closes = is.closes };
      named = is.named;
      are_columns = subst those last.whole is.are_columns;
      ends = sym (last_end-last last.front last.last);
    })
    last.kind plain in
    let bytes : inserted text last.last.end column ≡ take end text ++ codes ", " ++ column ++ drop end text =
    ap (λ k. inserted text k column) (sym at) ∙ sym (append_assoc (take end text) (codes ", ") (column ++ drop end text))
    ∙ sym (append_assoc (take end text ++ codes ", ") column (drop end text)) in
    let P : List ℕ → ℕ → Type 0 = λ b e. SpellsTable b name (columns ++ column ∷ []) e in
    subst (λ b. P b (end + 2 + length column)) bytes
    (subst (λ k. P (inserted text last.last.end column) (k + 2 + length column)) (sym at) table)
