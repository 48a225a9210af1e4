-- Words and the signs `(`, `)` and `,`: that they stand at a place is told by the bytes from there on.
use Rattle.std.proofs.Common.{◌≡◌, ℕ, ◌+◌, ◌<◌, ◌||◌, ◌&&◌, Bool, true, false, not, List, [], ◌∷◌, ◌++◌, ◌⊎◌, ⊎_elim, inl, inr, length, drop, get_or, eqb, arith, add-zero, refl, sym, ap, subst, ◌∙◌}
use Rattle.std.specs.Prelude.{codes}
use Rattle.std.specs.List.{list_all, prefix_len}
use Rattle.std.proofs.lemmas.Bool.{and_parts, and_from, and_right, or_cases, cond-true, cases_Bool, eqb-true, both_ways, not-true}
use Rattle.std.proofs.lemmas.List.{append_assoc, length-append, length-drop, get_or-drop}
use Rattle.sql_token.specs.declared.class.Class.TheVariants.{Letter, Other}
use Rattle.sql_token.specs.declared.token.Token.{Token}
use Rattle.sql_token.specs.declared.token.TokenKind.{TokenKind}
use Rattle.sql_token.specs.declared.token.TokenKind.TheVariants.{Word, Op}
use Rattle.sql_token.specs.Byte.{starts_word, in_word, is_x, begins}
use Rattle.sql_token.specs.Filler.{BeginsComment}
use Rattle.sql_token.specs.Form.{IsForm, IsWord, operators, is_operator}
use Rattle.sql_token.specs.Scan.{class_of}
use Rattle.sql_token.specs.Token.{span, is_spoiled, IsTokenAt}
use Rattle.sql_token.proofs.Fronts.{IsFront, led, operator_passes}
use Rattle.sql_token.proofs.Operators.{other_only}
use Rattle.common_laws.proofs.Lists.{range_at, range_length}
use Rattle.sql_token.proofs.Places.{split_at_token, token_from_front}
use Rattle.sql_token.proofs.Runs.{run_exact}
use Rattle.sql_token.proofs.Words.{is_quote, word_front}

-- the byte is one of the signs `(`, `)` and `,`
abbrev pub is_list_sign : ℕ → Bool
is_list_sign b = eqb b 40 || eqb b 41 || eqb b 44

-- the token is a Word, or one of the signs `(`, `)` and `,`
abbrev pub IsSimple : List ℕ → Token → Type 0
IsSimple text t = (t.kind ≡ Word) ⊎ ((t.kind ≡ Op) × ((span text t ≡ codes "(") ⊎ (span text t ≡ codes ")") ⊎ (span text t ≡ codes ",")))

-- ---- the first byte

-- the byte at the place is the first of what stands from there on
pub first_byte : (text : List ℕ) (at b : ℕ) (rest : List ℕ) → drop at text ≡ b ∷ rest → get_or text at 0 ≡ b
first_byte text at b rest split = ap (λ k. get_or text k 0) (sym (add-zero at)) ∙ sym (get_or-drop at text 0 0) ∙ ap (λ l. get_or l 0 0) split

-- where bytes stand the text has not ended
pub first_within : (text : List ℕ) (at b : ℕ) (rest : List ℕ) → drop at text ≡ b ∷ rest → at < length text
first_within text at b rest split = omega (arith, ap length split, length-drop at text)

-- no comment begins with a byte of a class that has neither `-` nor `/`
no_comment_by : (text : List ℕ) (at b : ℕ) (p : ℕ → Bool) → get_or text at 0 ≡ b → p b ≡ true → p 45 ≡ false → p 47 ≡ false → BeginsComment text at → ⊥
no_comment_by text at b p first passes dash slash comment =
    ⊎_elim
    (λ line. both_ways (p 45) dash (ap p (sym line.0 ∙ first) ∙ passes))
    (λ block. both_ways (p 47) slash (ap p (sym block.0 ∙ first) ∙ passes))
    comment

-- a token is known by its kind, its start and its end
retoken : (text : List ℕ) (t : Token) (kind : TokenKind) (start end : ℕ) → kind ≡ t.kind → start ≡ t.start → end ≡ t.end
    → IsTokenAt text (record { kind = kind; start = start; end = end }) → IsTokenAt text t
retoken text t kind start end kinds starts ends token =
    let same : record { kind = kind; start = start; end = end } ≡ t = λ i. record { kind = kinds i; start = starts i; end = ends i } in
    subst (IsTokenAt text) same token

-- ---- Words

-- a Word that is not spoiled is not the beginning of a blob
word_no_blob : (b : ℕ) (bytes rest : List ℕ) → list_all in_word bytes ≡ true → is_spoiled Word (b ∷ bytes) rest ≡ false
    → (is_x b && begins is_quote (bytes ++ rest)) ≡ false
word_no_blob b [] rest all closed = closed
word_no_blob b (c ∷ bytes) rest all closed =
    ⊎_elim
    (λ quote.
    let in_it : in_word 39 ≡ true = ap in_word (sym (eqb-true c 39 quote)) ∙ (and_parts (in_word c) (list_all in_word bytes) all).0 in
    absurd (cc))
    (λ other. and_right (is_x b) (is_quote c) other)
    (cases_Bool (is_quote c))

-- a Word stands where its bytes do, before no further byte of a Word, and not as `x` before a quote
pub word_at : (text : List ℕ) (at : ℕ) (front rest : List ℕ) → drop at text ≡ front ++ rest → IsWord front → begins in_word rest ≡ false
    → is_spoiled Word front rest ≡ false
    → IsTokenAt text (record { kind = Word; start = at; end = at + length front })
word_at text at [] rest split form stops closed = absurd form
word_at text at (b ∷ bytes) rest split form stops closed =
    let found : IsFront (b ∷ (bytes ++ rest)) Word (1 + prefix_len in_word (bytes ++ rest)) =
    word_front b (bytes ++ rest) (cond-true (starts_word b) Letter _ form.0) form.0 (word_no_blob b bytes rest form.1 closed) in
    let len : 1 + prefix_len in_word (bytes ++ rest) ≡ length (b ∷ bytes) = omega (arith, run_exact in_word bytes rest form.1 stops) in
    subst (λ n. IsTokenAt text (record { kind = Word; start = at; end = at + n })) len
    (token_from_front text at Word (1 + prefix_len in_word (bytes ++ rest)) (first_within text at b (bytes ++ rest) split)
    (no_comment_by text at b starts_word (first_byte text at b (bytes ++ rest) split) form.0 refl refl)
    (subst (λ l. IsFront l Word (1 + prefix_len in_word (bytes ++ rest))) (sym split) found))

-- the same of a token whose bytes are the Word's
pub word_stands : (text : List ℕ) (t : Token) (front rest : List ℕ) → t.kind ≡ Word → t.end ≡ t.start + length front → drop t.start text ≡ front ++ rest
    → IsWord front → begins in_word rest ≡ false → is_spoiled Word front rest ≡ false → IsTokenAt text t
word_stands text t front rest kind ends split form stops closed =
    retoken text t Word t.start (t.start + length front) (sym kind) refl (sym ends) (word_at text t.start front rest split form stops closed)

-- bytes of a Word and one more are bytes of a Word
all_longer : (bytes : List ℕ) (c : ℕ) → list_all in_word bytes ≡ true → in_word c ≡ true → list_all in_word (bytes ++ c ∷ []) ≡ true
all_longer [] c all passes = and_from (in_word c) true passes refl
all_longer (b ∷ bytes) c all passes =
    let parts = and_parts (in_word b) (list_all in_word bytes) all in
    and_from (in_word b) (list_all in_word (bytes ++ c ∷ [])) parts.0 (all_longer bytes c parts.1 passes)

-- a Word and one more of its bytes are a Word
word_longer : (front : List ℕ) (c : ℕ) → IsWord front → in_word c ≡ true → IsWord (front ++ c ∷ [])
word_longer [] c form passes = absurd form
word_longer (b ∷ bytes) c form passes = (form.0, all_longer bytes c form.1 passes)

-- what stands behind a Word does not begin with a byte of it
word_ends_before : (text : List ℕ) (t : Token) (behind : List ℕ) → IsTokenAt text t → t.kind ≡ Word → drop t.end text ≡ behind → begins in_word behind ≡ false
word_ends_before text t [] token kind is = refl
word_ends_before text t (c ∷ rest) token kind is =
    ⊎_elim
    (λ more.
    let split : drop t.start text ≡ (span text t ++ c ∷ []) ++ rest =
    split_at_token text t token ∙ ap (λ l. span text t ++ l) is ∙ sym (append_assoc (span text t) (c ∷ []) rest) in
    let size : t.end + 1 ≡ t.start + length (span text t ++ c ∷ []) =
    omega (arith, length-append (span text t) (c ∷ []), range_length text t.start t.end token.within, token.ascends) in
    absurd (token.longest Word (t.end + 1) (omega arith) (omega (arith, first_within text t.end c rest is))
    (subst IsWord (sym (range_at text (span text t ++ c ∷ []) rest t.start (t.end + 1) split size))
    (word_longer (span text t) c (subst (λ k. IsForm k (span text t)) kind token.form) more))))
    (λ stops. stops)
    (cases_Bool (in_word c))

-- behind a Word stands no further byte of it
pub word_ends : (text : List ℕ) (t : Token) → IsTokenAt text t → t.kind ≡ Word → begins in_word (drop t.end text) ≡ false
word_ends text t token kind = word_ends_before text t (drop t.end text) token kind refl

-- a Word has the form of one
pub word_form : (text : List ℕ) (t : Token) → IsTokenAt text t → t.kind ≡ Word → IsWord (span text t)
word_form text t token kind = subst (λ k. IsForm k (span text t)) kind token.form

-- a Word is not spoiled
pub word_is_closed : (text : List ℕ) (t : Token) → IsTokenAt text t → t.kind ≡ Word → is_spoiled Word (span text t) (drop t.end text) ≡ false
word_is_closed text t token kind = subst (λ k. is_spoiled k (span text t) (drop t.end text) ≡ false) kind token.closed

-- whether a Word is spoiled is told by whether a quote stands behind it
pub spoiled_by : (front rest other : List ℕ) → begins is_quote rest ≡ begins is_quote other → is_spoiled Word front rest ≡ is_spoiled Word front other
spoiled_by [] rest other same = refl
spoiled_by (b ∷ []) rest other same = ap (λ k. is_x b && k) same
spoiled_by (b ∷ c ∷ bytes) rest other same = refl

-- a Word is not spoiled where no quote stands behind it
pub closed_by : (front rest : List ℕ) → begins is_quote rest ≡ false → is_spoiled Word front rest ≡ false
closed_by [] rest none = refl
closed_by (b ∷ []) rest none = and_right (is_x b) (begins is_quote rest) none
closed_by (b ∷ c ∷ bytes) rest none = refl

-- ---- signs

-- what holds of each of the signs
sign_cases : (P : ℕ → Type 0) (b : ℕ) → is_list_sign b ≡ true → P 40 → P 41 → P 44 → P b
sign_cases P b sign left right comma =
    ⊎_elim
    (λ two. ⊎_elim
    (λ is. subst P (sym (eqb-true b 40 is)) left)
    (λ is. subst P (sym (eqb-true b 41 is)) right)
    (or_cases (eqb b 40) (eqb b 41) two))
    (λ is. subst P (sym (eqb-true b 44 is)) comma)
    (or_cases (eqb b 40 || eqb b 41) (eqb b 44) sign)

-- what begins with a sign has one byte
is_alone : List ℕ → Bool
is_alone [] = true
is_alone (b ∷ []) = true
is_alone (b ∷ c ∷ bytes) = not (is_list_sign b)

-- no operator but the sign itself begins with one of the signs
all_alone : list_all is_alone operators ≡ true
unfolding is_alone
all_alone = refl

-- an operator that begins with one of the signs is the sign
sign_alone : (b : ℕ) (tail : List ℕ) → is_list_sign b ≡ true → is_operator (b ∷ tail) ≡ true → tail ≡ []
unfolding is_alone
sign_alone b [] sign form = refl
sign_alone b (c ∷ tail) sign form = absurd (both_ways (is_list_sign b) (not-true (is_list_sign b) (operator_passes is_alone (b ∷ c ∷ tail) all_alone form)) sign)

-- no other token than an operator begins with a sign
sign_class : (b : ℕ) → is_list_sign b ≡ true → class_of b ≡ Other
sign_class b sign = sign_cases (λ k. class_of k ≡ Other) b sign refl refl refl

-- a sign is an operator
sign_form : (b : ℕ) → is_list_sign b ≡ true → is_operator (b ∷ []) ≡ true
sign_form b sign = sign_cases (λ k. is_operator (k ∷ []) ≡ true) b sign refl refl refl

-- the sign is the token in front of what begins with it
sign_front : (b : ℕ) (rest : List ℕ) → is_list_sign b ≡ true → IsFront (b ∷ rest) Op 1
sign_front b rest sign = record {
  best = record {
    front = b ∷ [];
    rest = rest;
    split = refl;
    length_is = refl;
    form = sign_form b sign;
    most = led (λ kind front behind. (length front < 1) ⊎ ((length front ≡ 1) × (kind ≡ Op))) b rest Other (sign_class b sign)
        (λ kind tail behind split suits form.
        let op : kind ≡ Op = other_only b rest kind tail behind split suits form in
        inr (omega (arith, ap length (sign_alone b tail sign (subst (λ k. IsForm k (b ∷ tail)) op form))), op));
  };
  closed = refl;
}

-- a sign stands where its byte does
pub sign_stands : (text : List ℕ) (t : Token) (b : ℕ) (rest : List ℕ) → t.kind ≡ Op → t.end ≡ t.start + 1 → drop t.start text ≡ b ∷ rest → is_list_sign b ≡ true
    → IsTokenAt text t
sign_stands text t b rest kind ends split sign =
    retoken text t Op t.start (t.start + 1) (sym kind) refl (sym ends)
    (token_from_front text t.start Op 1 (first_within text t.start b rest split)
    (no_comment_by text t.start b is_list_sign (first_byte text t.start b rest split) sign refl refl)
    (subst (λ l. IsFront l Op 1) (sym split) (sign_front b rest sign)))

-- a simple token is a Word, or the byte of a sign
pub simple_cases : (text : List ℕ) (t : Token) → IsSimple text t → (t.kind ≡ Word) ⊎ ((t.kind ≡ Op) × ((b : ℕ) × (is_list_sign b ≡ true) × (span text t ≡ b ∷ [])))
simple_cases text t simple =
    ⊎_elim
    (λ word. inl word)
    (λ sign. inr (sign.0, ⊎_elim (λ e. (40, refl, e)) (λ other. ⊎_elim (λ e. (41, refl, e)) (λ e. (44, refl, e)) other) sign.1))
    simple
