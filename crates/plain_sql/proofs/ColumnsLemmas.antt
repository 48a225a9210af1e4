-- How tokens are cut into columns.
use Rattle.std.proofs.Common.{◌≡◌, ℕ, zero, suc, ◌+◌, ◌-◌, ◌<◌, ◌≤◌, take, drop, length, length-append, get_or, arith, List, [], ◌∷◌, ◌++◌, codes, refl, sym, subst, ap, ◌∙◌, append_assoc}
use Rattle.std.proofs.lemmas.List.{append-nil}
use Rattle.sql_token.specs.declared.token.Token.{Token}
use Rattle.sql_token.specs.declared.token.TokenKind.TheVariants.{Word, Op}
use Rattle.sql_token.specs.declared.keyword.Keyword.TheVariants.{Create, Table}
use Rattle.sql_token.specs.Token.{span, AreTokens, AreTokensIn}
use Rattle.sql_token.specs.Fixed.{IsFixed, IsSign}
use Rattle.plain_sql.specs.Words.{IsPlain, IsPlainName}
use Rattle.plain_sql.specs.TableText.{ArePlain, IsPlainColumn, AreColumns, IsBeyondWords, IsBehindWords, BeginsColumn, IsTableFrame, SpellsTable, last_end}
use Rattle.common_laws.proofs.Each.{all_at, all_append, cut_one}
use Rattle.common_laws.proofs.Lists.{last_apart, four_and_last}

-- a sign is no word
pub sign_not_plain : (text sign : List ℕ) (token : Token) → IsSign text sign token → IsPlain text token → ⊥
sign_not_plain text sign token is plain = let both : Op ≡ Word = sym is.kind ∙ plain.1.kind in cc

-- the tokens of a column are words
pub column_plain : (text : List ℕ) (tokens : List Token) (name : List ℕ) → IsPlainColumn text tokens name → ArePlain text tokens
column_plain text tokens name is = subst (ArePlain text) (sym is.whole) ((name, is.named), is.plain)

-- a column has one name
pub column_named : (text : List ℕ) (a b : List Token) (m n : List ℕ) → a ≡ b → IsPlainColumn text a m → IsPlainColumn text b n → m ≡ n
column_named text a b m n e is other =
    let fronts : is.first ∷ is.others ≡ other.first ∷ other.others = sym is.whole ∙ e ∙ other.whole in
    let same : is.first ≡ other.first = cc in
    is.named.spelled ∙ ap (span text) same ∙ sym other.named.spelled

-- the columns of all tokens are these names and then the columns of the rest
pub record LeadsTo (text : List ℕ) (tokens : List Token) (names : List (List ℕ)) (rest : List Token) : Type 0 where
  pub found : (more : List (List ℕ)) → AreColumns text rest more → AreColumns text tokens (names ++ more)
  pub only : (all : List (List ℕ)) → AreColumns text tokens all → (more : List (List ℕ)) × (all ≡ names ++ more) × AreColumns text rest more

-- before the first column
pub leads_at_first : (text : List ℕ) (tokens : List Token) → LeadsTo text tokens [] tokens
leads_at_first text tokens = record { found = λ more columns. columns; only = λ all columns. (all, refl, columns) }

-- a column that nothing follows
pub last_column : (text : List ℕ) (rest others : List Token) (name : List ℕ) → BeginsColumn text rest name others → others ≡ [] → IsPlainColumn text rest name
last_column text rest others name begins none =
    let whole : rest ≡ begins.column = begins.whole ∙ ap (λ o. begins.column ++ o) none ∙ append-nil begins.column in
    let P : List Token → Type 0 = λ t. IsPlainColumn text t name in
    subst P (sym whole) begins.is_column

-- a column, a comma and columns
pub column_in_front : (text : List ℕ) (rest column next : List Token) (comma : Token) (name : List ℕ) (more : List (List ℕ)) → rest ≡ column ++ comma ∷ next
    → IsPlainColumn text column name → IsSign text (codes ",") comma → AreColumns text next more → AreColumns text rest (name ∷ more)
column_in_front text rest column next comma name [] whole is sign columns = absurd columns
column_in_front text rest column next comma name (n ∷ ns) whole is sign columns = (column, comma, next, whole, is, sign, columns)

-- the columns of a column, a comma and what follows
pub columns_behind : (text : List ℕ) (rest column next : List Token) (comma : Token) (name : List ℕ) (all : List (List ℕ)) → rest ≡ column ++ comma ∷ next
    → IsPlainColumn text column name → IsSign text (codes ",") comma → AreColumns text rest all → (more : List (List ℕ)) × (all ≡ name ∷ more) × AreColumns text next more
columns_behind text rest column next comma name [] whole is sign columns = absurd columns
columns_behind text rest column next comma name (n ∷ []) whole is sign columns =
    absurd (sign_not_plain text _ comma sign (all_at (IsPlain text) column comma next (subst (ArePlain text) whole (column_plain text rest n columns))))
columns_behind text rest column next comma name (n ∷ m ∷ ms) whole is sign (other, mark, behind, cut, was, marks, columns) =
    let (front, same, back) = cut_one (IsPlain text) column other comma mark next behind (column_plain text column name is) (column_plain text other n was)
    (sign_not_plain text _ comma sign) (sign_not_plain text _ mark marks) (sym whole ∙ cut) in
    let P : List Token → Type 0 = λ t. AreColumns text t (m ∷ ms) in
    (m ∷ ms, ap (λ x. x ∷ m ∷ ms) (sym (column_named text column other name n front is was)), subst P (sym back) columns)

-- one column further
pub leads_on : (text : List ℕ) (tokens rest others next : List Token) (names : List (List ℕ)) (name : List ℕ) (comma : Token) → LeadsTo text tokens names rest
    → BeginsColumn text rest name others → others ≡ comma ∷ next → IsSign text (codes ",") comma → LeadsTo text tokens (names ++ name ∷ []) next
leads_on text tokens rest others next names name comma leads begins cut sign =
    let whole : rest ≡ begins.column ++ comma ∷ next = begins.whole ∙ ap (λ o. begins.column ++ o) cut in
    record {
      found = λ more columns. subst (AreColumns text tokens) (sym (append_assoc names (name ∷ []) more))
          (leads.found (name ∷ more) (column_in_front text rest begins.column next comma name more whole begins.is_column sign columns));
      only = λ all columns.
          let (more, is, those) = leads.only all columns in
          let (last, was, these) = columns_behind text rest begins.column next comma name more whole begins.is_column sign those in
          (last, is ∙ ap (λ m. names ++ m) was ∙ sym (append_assoc names (name ∷ []) last), these);
    }

-- the columns of one column
pub columns_of_one : (text : List ℕ) (rest : List Token) (name : List ℕ) (all : List (List ℕ)) → IsPlainColumn text rest name → AreColumns text rest all → all ≡ name ∷ []
columns_of_one text rest name [] is columns = absurd columns
columns_of_one text rest name (n ∷ []) is columns = ap (λ x. x ∷ []) (column_named text rest rest n name refl columns is)
columns_of_one text rest name (n ∷ m ∷ ms) is (other, mark, behind, cut, was, marks, columns) =
    absurd (sign_not_plain text _ mark marks (all_at (IsPlain text) other mark behind (subst (ArePlain text) cut (column_plain text rest name is))))

-- with the last column the names are all
pub leads_to_end : (text : List ℕ) (tokens rest others : List Token) (names : List (List ℕ)) (name : List ℕ) → LeadsTo text tokens names rest
    → BeginsColumn text rest name others → others ≡ [] → AreColumns text tokens (names ++ name ∷ [])
leads_to_end text tokens rest others names name leads begins none = leads.found (name ∷ []) (last_column text rest others name begins none)

-- and no other names
pub leads_to_end_only : (text : List ℕ) (tokens rest others : List Token) (names : List (List ℕ)) (name : List ℕ) (all : List (List ℕ)) → LeadsTo text tokens names rest
    → BeginsColumn text rest name others → others ≡ [] → AreColumns text tokens all → names ++ name ∷ [] ≡ all
leads_to_end_only text tokens rest others names name all leads begins none columns =
    let (more, is, those) = leads.only all columns in
    sym (is ∙ ap (λ m. names ++ m) (columns_of_one text rest name more (last_column text rest others name begins none) those))

-- where no column is in front, there are no columns
no_columns : (text : List ℕ) (rest : List Token) (all : List (List ℕ))
    → ((column others : List Token) (name : List ℕ) → rest ≡ column ++ others → IsPlainColumn text column name → ⊥) → AreColumns text rest all → ⊥
no_columns text rest [] none columns = columns
no_columns text rest (n ∷ []) none columns = none rest [] n (sym (append-nil rest)) columns
no_columns text rest (n ∷ m ∷ ms) none (other, mark, behind, cut, was, marks, columns) = none other (mark ∷ behind) n cut was

-- the same, behind some columns
pub leads_to_no_column : (text : List ℕ) (tokens rest : List Token) (names all : List (List ℕ)) → LeadsTo text tokens names rest
    → ((column others : List Token) (name : List ℕ) → rest ≡ column ++ others → IsPlainColumn text column name → ⊥) → AreColumns text tokens all → ⊥
leads_to_no_column text tokens rest names all leads none columns =
    let (more, is, those) = leads.only all columns in no_columns text rest more none those

-- where a column ends at neither a comma nor the end, there are no columns
no_comma : (text : List ℕ) (rest column next : List Token) (token : Token) (name : List ℕ) (all : List (List ℕ)) → rest ≡ column ++ token ∷ next
    → IsPlainColumn text column name → (IsPlain text token → ⊥) → (IsSign text (codes ",") token → ⊥) → AreColumns text rest all → ⊥
no_comma text rest column next token name [] whole is stop other columns = columns
no_comma text rest column next token name (n ∷ []) whole is stop other columns =
    stop (all_at (IsPlain text) column token next (subst (ArePlain text) whole (column_plain text rest n columns)))
no_comma text rest column next token name (n ∷ m ∷ ms) whole is stop other (a, mark, behind, cut, was, marks, columns) =
    let (front, same, back) = cut_one (IsPlain text) column a token mark next behind (column_plain text column name is) (column_plain text a n was)
    stop (sign_not_plain text _ mark marks) (sym whole ∙ cut) in
    other (subst (IsSign text (codes ",")) (sym same) marks)

-- the same, behind some columns
pub leads_to_no_comma : (text : List ℕ) (tokens rest others next : List Token) (token : Token) (names : List (List ℕ)) (name : List ℕ) (all : List (List ℕ))
    → LeadsTo text tokens names rest → BeginsColumn text rest name others → others ≡ token ∷ next → (IsSign text (codes ",") token → ⊥) → AreColumns text tokens all → ⊥
leads_to_no_comma text tokens rest others next token names name all leads begins cut other columns =
    let (more, is, those) = leads.only all columns in
    let whole : rest ≡ begins.column ++ token ∷ next = begins.whole ∙ ap (λ o. begins.column ++ o) cut in
    no_comma text rest begins.column next token name more whole begins.is_column (subst (IsBeyondWords text) cut begins.stop) other those

-- the end of the last token
pub last_end-at : (tokens : List Token) (i : ℕ) (d : Token) → i + 1 ≡ length tokens → (get_or tokens i d).end ≡ last_end tokens
last_end-at [] i d len = absurd (omega arith)
last_end-at (one ∷ []) zero d len = refl
last_end-at (one ∷ []) (suc i) d len = absurd (omega arith)
last_end-at (one ∷ next ∷ tokens) zero d len = absurd (omega arith)
last_end-at (one ∷ next ∷ tokens) (suc i) d len = last_end-at (next ∷ tokens) i d (omega arith)

-- one word more is passed over
pub words_further : (text : List ℕ) (tokens rest words : List Token) (word : Token) (others : List Token) → tokens ≡ words ++ rest → rest ≡ word ∷ others
    → ArePlain text words → IsPlain text word → (more : List Token) × (tokens ≡ more ++ others) × ArePlain text more
words_further text tokens rest words word others whole front plain one = (
  words ++ word ∷ [],
  whole ∙ ap (λ r. words ++ r) front ∙ sym (append_assoc words (word ∷ []) others),
  all_append (IsPlain text) words (word ∷ []) plain (one, tt),
)

-- a name and what stands behind the words that follow it
pub column_begins : (text : List ℕ) (tokens others behind : List Token) (first : Token) (name : List ℕ) → tokens ≡ first ∷ others → IsPlainName text first name
    → IsBehindWords text others behind → BeginsColumn text tokens name behind
column_begins text tokens others behind first name front named words = record {
  column = first ∷ words.words;
  whole = front ∙ ap (λ o. first ∷ o) words.whole;
  is_column = record { first = first; others = words.words; whole = refl; named = named; plain = words.plain };
  stop = words.stop;
}

-- what the tokens of a table's text are
pub record IsMadeOf (text : List ℕ) (create_word table_word title left : Token) (inside : List Token) (right : Token) (name : List ℕ) (columns : List (List ℕ)) (end : ℕ) : Type 0 where
  pub frame : IsTableFrame text create_word table_word left right
  pub named : IsPlainName text title name
  pub are_columns : AreColumns text inside columns
  pub ends : end ≡ last_end inside

-- the tokens that were read are the table's
pub made_of : (text name : List ℕ) (columns : List (List ℕ)) (end : ℕ) (read : List Token) (a b t l : Token) (xs : List Token) (z : Token)
    → ((list : List Token) → AreTokens text list → read ≡ list) → read ≡ a ∷ b ∷ t ∷ l ∷ xs ++ z ∷ [] → SpellsTable text name columns end
    → IsMadeOf text a b t l xs z name columns end
made_of text name columns end read a b t l xs z only front spells =
    let same : a ∷ b ∷ t ∷ l ∷ xs ++ z ∷ [] ≡ spells.create_word ∷ spells.table_word ∷ spells.title ∷ spells.left ∷ spells.inside ++ spells.right ∷ [] =
    sym front ∙ only _ spells.tokens in
    let create_is : spells.create_word ≡ a = cc in
    let table_is : spells.table_word ≡ b = cc in
    let title_is : spells.title ≡ t = cc in
    let left_is : spells.left ≡ l = cc in
    let behind : spells.inside ++ spells.right ∷ [] ≡ xs ++ z ∷ [] = cc in
    let (inside_is, right_is) = last_apart _ _ _ _ behind in
    let named : Token → Type 0 = λ w. IsPlainName text w name in
    let those : List Token → Type 0 = λ i. AreColumns text i columns in
    record {
      frame = record {
        creates = subst (IsFixed text Create) create_is spells.creates;
        table = subst (IsFixed text Table) table_is spells.table;
        opens = subst (IsSign text (codes "(")) left_is spells.opens;
        closes = subst (IsSign text (codes ")")) right_is spells.closes;
      };
      named = subst named title_is spells.named;
      are_columns = subst those inside_is spells.are_columns;
      ends = spells.ends ∙ ap last_end inside_is;
    }

-- tokens of these parts are a table
pub spells_table : (text name : List ℕ) (columns : List (List ℕ)) (end : ℕ) (read : List Token) (a b t l : Token) (xs : List Token) (z : Token)
    → AreTokens text read → read ≡ a ∷ b ∷ t ∷ l ∷ xs ++ z ∷ [] → IsMadeOf text a b t l xs z name columns end → SpellsTable text name columns end
spells_table text name columns end read a b t l xs z tokens front made = record {
  create_word = a;
  table_word = b;
  title = t;
  left = l;
  inside = xs;
  right = z;
  tokens = subst (AreTokens text) front tokens;
  creates = made.frame.creates;
  table = made.frame.table;
  named = made.named;
  opens = made.frame.opens;
  are_columns = made.are_columns;
  closes = made.frame.closes;
  ends = made.ends;
}

-- the tokens of a table's text
abbrev pub list_of : {text name : List ℕ} {columns : List (List ℕ)} {end : ℕ} → SpellsTable text name columns end → List Token
list_of spells = spells.create_word ∷ spells.table_word ∷ spells.title ∷ spells.left ∷ spells.inside ++ spells.right ∷ []

-- fewer tokens make no table
pub made_of_five : (text name : List ℕ) (columns : List (List ℕ)) (end : ℕ) (read : List Token) → ((list : List Token) → AreTokens text list → read ≡ list)
    → length read < 5 → SpellsTable text name columns end → ⊥
made_of_five text name columns end read only few spells =
    let whole : read ≡ list_of spells = only (list_of spells) spells.tokens in
    let same : length read ≡ length (list_of spells) = ap length whole in
    omega (arith, length-append spells.inside (spells.right ∷ []))

-- a token of no text
abbrev pub blank : Token
blank = record { kind = Word; start = 0; end = 0 }

-- five tokens or more make this table alone
abbrev pub IsMadeOfRead : List ℕ → List Token → List ℕ → List (List ℕ) → ℕ → Type 0
IsMadeOfRead text read name columns end =
    IsMadeOf text (get_or read 0 blank) (get_or read 1 blank) (get_or read 2 blank) (get_or read 3 blank) (take (length read - 1 - 4) (drop 4 read))
    (get_or read (length read - 1) blank) name columns end

-- the parts, as they are read out of the tokens
pub made_of_read : (text name : List ℕ) (columns : List (List ℕ)) (end : ℕ) (read : List Token) → ((list : List Token) → AreTokens text list → read ≡ list)
    → 5 ≤ length read → SpellsTable text name columns end → IsMadeOfRead text read name columns end
made_of_read text name columns end read only some = made_of text name columns end read _ _ _ _ _ _ only (four_and_last read blank some)

-- tokens of the parts that were read are a table
pub read_spells : (text name : List ℕ) (columns : List (List ℕ)) (end : ℕ) (read : List Token) → AreTokens text read → 5 ≤ length read
    → IsMadeOfRead text read name columns end → SpellsTable text name columns end
read_spells text name columns end read tokens some = spells_table text name columns end read _ _ _ _ _ _ tokens (four_and_last read blank some)

-- each of the tokens ends in the text
abbrev EndWithin : List ℕ → List Token → Type 0
EndWithin text [] = Unit {0}
EndWithin text (token ∷ tokens) = (token.end ≤ length text) × EndWithin text tokens

-- the tokens of a text end in it
tokens_within : (text : List ℕ) (from to : ℕ) (tokens : List Token) → AreTokensIn text from to tokens → EndWithin text tokens
tokens_within text from to [] are = tt
tokens_within text from to (token ∷ tokens) are = (are.1.within, tokens_within text token.end to tokens are.2)

-- so do those in front
front_within : (text : List ℕ) (front behind : List Token) → EndWithin text (front ++ behind) → EndWithin text front
front_within text [] behind within = tt
front_within text (token ∷ front) behind within = (within.0, front_within text front behind within.1)

-- and the last of them
end_within : (text : List ℕ) (tokens : List Token) → EndWithin text tokens → last_end tokens ≤ length text
end_within text [] within = omega arith
end_within text (token ∷ []) within = within.0
end_within text (token ∷ next ∷ tokens) within = end_within text (next ∷ tokens) within.1

-- the last column ends in the text
pub ends_within : (text name : List ℕ) (columns : List (List ℕ)) (end : ℕ) → SpellsTable text name columns end → end ≤ length text
ends_within text name columns end spells =
    let within = tokens_within text 0 (length text) (list_of spells) spells.tokens in
    let le : last_end spells.inside ≤ length text =
    end_within text spells.inside (front_within text spells.inside (spells.right ∷ []) within.1.1.1.1) in
    let P : ℕ → Type 0 = λ n. n ≤ length text in
    subst P (sym spells.ends) le
