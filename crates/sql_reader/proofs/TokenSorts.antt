-- What a token of each sort is, both ways.
use Rattle.std.proofs.Common.{◌≡◌, ℕ, ⊎_elim, List, [], ◌∷◌, Option, Some, None, if◌then◌else◌, refl, sym, ap, ◌∙◌}
use Rattle.std.specs.Prelude.{◌==◌}
use Rattle.std.proofs.lemmas.Bool.{cond-true, cond-false, cases_Bool, eqb-true}
use Rattle.std.proofs.lemmas.Option.{same_Some}
use Rattle.sql_token.specs.declared.token.Token.{Token}
use Rattle.sql_token.specs.declared.token.TokenKind.{TokenKind}
use Rattle.sql_token.specs.declared.token.TokenKind.TheVariants as Kind
use Rattle.sql_token.specs.declared.keyword.Keyword.{Keyword}
use Rattle.sql_token.specs.Keyword.{spelling}
use Rattle.sql_token.specs.Names.{folded}
use Rattle.sql_token.specs.Token.{span}
use Rattle.sql_token.specs.Fixed.{IsFixed, IsSign}
use Rattle.sql_reader.specs.declared.sort.Mark.{Mark}
use Rattle.sql_reader.specs.declared.sort.Mark.TheVariants.{Opening, Closing, Comma, Semicolon, Dot, Plus, Minus, Star, Tilde, Equal, Operator}
use Rattle.sql_reader.specs.declared.sort.Sort.TheVariants.{Fixed, Sign}
use Rattle.sql_reader.specs.Sorts.{sort_of, sort_in, sort_of_word, word_of, mark_of, mark_of_byte}
use Rattle.sql_reader.proofs.Words.{word_of-spelled, spelled_by_word_of}

-- ---- fixed words

fixed_in : (kind : TokenKind) (bytes : List ℕ) (k : Keyword) → sort_in kind bytes ≡ Fixed k → (kind ≡ Kind.Word) × (folded bytes ≡ spelling k)
fixed_in Kind.Word bytes k e = (refl, spelled_by_word_of (folded bytes) k (at (word_of (folded bytes)) e))
  where
    at : (o : Option Keyword) → sort_of_word o ≡ Fixed k → o ≡ Some k
    at None e = absurd (cc)
    at (Some l) e = let same : l ≡ k = cc in ap (λ v. Some v) same
fixed_in Kind.Quoted bytes k e = absurd (cc)
fixed_in Kind.Str bytes k e = absurd (cc)
fixed_in Kind.Blob bytes k e = absurd (cc)
fixed_in Kind.Int bytes k e = absurd (cc)
fixed_in Kind.Hex bytes k e = absurd (cc)
fixed_in Kind.Float bytes k e = absurd (cc)
fixed_in Kind.Op bytes k e = absurd (cc)

-- a token of the sort of a fixed word is that word
pub fixed_so : (text : List ℕ) (k : Keyword) (t : Token) → sort_of text t ≡ Fixed k → IsFixed text k t
unfolding sort_of
fixed_so text k t e = let parts = fixed_in t.kind (span text t) k e in record { kind = parts.0; spelled = parts.1 }

-- a fixed word has its sort
pub fixed_sort : (text : List ℕ) (k : Keyword) (t : Token) → IsFixed text k t → sort_of text t ≡ Fixed k
unfolding sort_of
fixed_sort text k t is =
    ap (λ kind. sort_in kind (span text t)) is.kind ∙ ap sort_of_word (word_of-spelled (folded (span text t)) k is.spelled)

-- ---- signs

-- the byte of a sign that has one
abbrev pub byte_of : Mark → Option ℕ
byte_of Opening = Some 40
byte_of Closing = Some 41
byte_of Comma = Some 44
byte_of Semicolon = Some 59
byte_of Dot = Some 46
byte_of Plus = Some 43
byte_of Minus = Some 45
byte_of Star = Some 42
byte_of Tilde = Some 126
byte_of Equal = Some 61
byte_of Operator = None

sign_in : (kind : TokenKind) (bytes : List ℕ) (m : Mark) → sort_in kind bytes ≡ Sign m → (kind ≡ Kind.Op) × (mark_of bytes ≡ m)
sign_in Kind.Word bytes m e = absurd (at (word_of (folded bytes)) e)
  where
    at : (o : Option Keyword) → sort_of_word o ≡ Sign m → ⊥
    at None e = cc
    at (Some l) e = cc
sign_in Kind.Quoted bytes m e = absurd (cc)
sign_in Kind.Str bytes m e = absurd (cc)
sign_in Kind.Blob bytes m e = absurd (cc)
sign_in Kind.Int bytes m e = absurd (cc)
sign_in Kind.Hex bytes m e = absurd (cc)
sign_in Kind.Float bytes m e = absurd (cc)
sign_in Kind.Op bytes m e = (refl, cc)

-- what a test of the byte says, at one of the signs
byte_step : (x n b : ℕ) (m rest : Mark) → byte_of m ≡ Some n → (byte_of rest ≡ Some b → x ≡ b) → byte_of (if x == n then m else rest) ≡ Some b → x ≡ b
byte_step x n b m rest has further e =
    ⊎_elim
    (λ here.
    let joined : Some n ≡ Some b = sym has ∙ ap byte_of (sym (cond-true (x == n) m rest here)) ∙ e in
    eqb-true x n here ∙ same_Some n b joined)
    (λ other. further (ap byte_of (sym (cond-false (x == n) m rest other)) ∙ e))
    (cases_Bool (x == n))

byte_back : (x b : ℕ) → byte_of (mark_of_byte x) ≡ Some b → x ≡ b
byte_back x b e =
    byte_step x 40 b Opening _ refl (byte_step x 41 b Closing _ refl (byte_step x 44 b Comma _ refl (byte_step x 59 b Semicolon _ refl
    (byte_step x 46 b Dot _ refl (byte_step x 43 b Plus _ refl (byte_step x 45 b Minus _ refl (byte_step x 42 b Star _ refl
    (byte_step x 126 b Tilde _ refl (byte_step x 61 b Equal Operator refl (λ none. absurd (cc))))))))))) e

mark_byte : (bytes : List ℕ) (m : Mark) (b : ℕ) → mark_of bytes ≡ m → byte_of m ≡ Some b → bytes ≡ b ∷ []
mark_byte [] m b is has = let never : ◌≡◌ {A = Option ℕ} None (Some b) = ap byte_of is ∙ has in absurd (cc)
mark_byte (x ∷ []) m b is has = ap (λ y. y ∷ []) (byte_back x b (ap byte_of is ∙ has))
mark_byte (x ∷ y ∷ bytes) m b is has = let never : ◌≡◌ {A = Option ℕ} None (Some b) = ap byte_of is ∙ has in absurd (cc)

-- a token of the sort of a sign is that sign
pub sign_so : (text : List ℕ) (m : Mark) (b : ℕ) (t : Token) → byte_of m ≡ Some b → sort_of text t ≡ Sign m → IsSign text (b ∷ []) t
unfolding sort_of
sign_so text m b t has e =
    let parts = sign_in t.kind (span text t) m e in record { kind = parts.0; spelled = mark_byte (span text t) m b parts.1 has }

-- a sign has its sort
pub sign_sort : (text : List ℕ) (b : ℕ) (t : Token) → IsSign text (b ∷ []) t → sort_of text t ≡ Sign (mark_of_byte b)
unfolding sort_of
sign_sort text b t is =
    ap (λ kind. sort_in kind (span text t)) is.kind ∙ ap (λ bytes. Sign (mark_of bytes)) is.spelled
