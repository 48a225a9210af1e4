-- What leaves ask of their tokens, as sets of sorts.
use Rattle.std.proofs.Common.{◌≡◌, ℕ, ◌⊎◌, ⊎_elim, inl, inr, Bool, true, false, List, [], ◌∷◌, Option, Some, None, refl, sym, ap, subst, ◌∙◌}
use Rattle.std.specs.Prelude.{IsTrue}
use Rattle.std.specs.List.{AllByRecursion}
use Rattle.std.proofs.lemmas.Bool.{both_ways, not-true, not_from_false, false_from_ne_true, and_parts, and_from, or_cases, or_parts, or_from, or_left, or_right}
use Rattle.sql_token.specs.declared.token.Token.{Token}
use Rattle.sql_token.specs.declared.token.TokenKind.{TokenKind}
use Rattle.sql_token.specs.declared.token.TokenKind.TheVariants as Kind
use Rattle.sql_token.specs.declared.keyword.Keyword.{Keyword}
use Rattle.sql_token.specs.Keyword.{is_reserved}
use Rattle.sql_token.specs.Form.{IsNumberKind}
use Rattle.sql_token.specs.Names.{folded, IsNameKind}
use Rattle.sql_token.specs.Token.{span}
use Rattle.sql_token.specs.Fixed.{IsFixed, IsSign, IsName}
use Rattle.sql_reader.specs.declared.sort.Mark.{Mark}
use Rattle.sql_reader.specs.declared.sort.Sort.{Sort}
use Rattle.sql_reader.specs.declared.sort.Sort.TheVariants.{Fixed, Sign, Plain, Quoted, Str, Blob, Int, Hex, Float, End}
use Rattle.sql_reader.specs.Sorts.{sort_of, sort_in, sort_of_word, word_of, mark_of_byte, same_sort}
use Rattle.sql_reader.specs.Looks.{Set, only, word, words, word_where, reserved_word, sign, any_sign, name, number, either, both, none_of}
use Rattle.sql_reader.proofs.Sorts.{same_sort-true, same_sort-self}
use Rattle.sql_reader.proofs.TokenSorts.{fixed_so, fixed_sort, byte_of, sign_so, sign_sort}
use Rattle.sql_reader.proofs.Laws.{Fits}

-- ---- words and signs

-- a fixed word
pub word_fits : (text : List ℕ) (k : Keyword) → Fits (sort_of text) (IsFixed text k) (word k)
word_fits text k =
    record {
      meets = λ t here. fixed_so text k t (same_sort-true (sort_of text t) (Fixed k) here);
      shows = λ t is. ap (λ s. same_sort s (Fixed k)) (fixed_sort text k t is) ∙ same_sort-self (Fixed k);
    }

-- a sign of one byte
pub sign_fits : (text : List ℕ) (m : Mark) (b : ℕ) → byte_of m ≡ Some b → mark_of_byte b ≡ m → Fits (sort_of text) (IsSign text (b ∷ [])) (sign m)
sign_fits text m b has back =
    record {
      meets = λ t here. sign_so text m b t has (same_sort-true (sort_of text t) (Sign m) here);
      shows = λ t is. ap (λ s. same_sort s (Sign m)) (sign_sort text b t is ∙ ap (λ n. Sign n) back) ∙ same_sort-self (Sign m);
    }

-- one of the fixed words
abbrev pub IsOneWord : List ℕ → List Keyword → Token → Type 0
IsOneWord text [] t = ⊥
IsOneWord text (k ∷ ks) t = IsFixed text k t ⊎ IsOneWord text ks t

one_word_so : (text : List ℕ) (ks : List Keyword) (t : Token) → words ks (sort_of text t) ≡ true → IsOneWord text ks t
one_word_so text [] t here = absurd (cc)
one_word_so text (k ∷ ks) t here =
    ⊎_elim (λ now. inl (fixed_so text k t (same_sort-true (sort_of text t) (Fixed k) now))) (λ later. inr (one_word_so text ks t later))
    (or_cases (same_sort (sort_of text t) (Fixed k)) (words ks (sort_of text t)) here)

one_word_shown : (text : List ℕ) (ks : List Keyword) (t : Token) → IsOneWord text ks t → words ks (sort_of text t) ≡ true
one_word_shown text [] t is = absurd is
one_word_shown text (k ∷ ks) t is =
    ⊎_elim
    (λ now. or_left (same_sort (sort_of text t) (Fixed k)) (words ks (sort_of text t))
    (ap (λ s. same_sort s (Fixed k)) (fixed_sort text k t now) ∙ same_sort-self (Fixed k)))
    (λ later. or_right (same_sort (sort_of text t) (Fixed k)) (words ks (sort_of text t)) (one_word_shown text ks t later))
    is

pub words_fit : (text : List ℕ) (ks : List Keyword) → Fits (sort_of text) (IsOneWord text ks) (words ks)
words_fit text ks = record { meets = one_word_so text ks; shows = one_word_shown text ks }

no_word_so : (text : List ℕ) (ks : List Keyword) (t : Token) → words ks (sort_of text t) ≡ false → AllByRecursion (λ k. IsFixed text k t → ⊥) ks
no_word_so text [] t other = tt
no_word_so text (k ∷ ks) t other =
    let parts = or_parts (same_sort (sort_of text t) (Fixed k)) (words ks (sort_of text t)) other in (
      λ is. both_ways (same_sort (sort_of text t) (Fixed k)) parts.0
          (ap (λ s. same_sort s (Fixed k)) (fixed_sort text k t is) ∙ same_sort-self (Fixed k)),
      no_word_so text ks t parts.1,
    )

no_word_shown : (text : List ℕ) (ks : List Keyword) (t : Token) → AllByRecursion (λ k. IsFixed text k t → ⊥) ks → words ks (sort_of text t) ≡ false
no_word_shown text [] t never = refl
no_word_shown text (k ∷ ks) t never =
    or_from (same_sort (sort_of text t) (Fixed k)) (words ks (sort_of text t))
    (false_from_ne_true (same_sort (sort_of text t) (Fixed k)) (λ here. never.0 (fixed_so text k t (same_sort-true (sort_of text t) (Fixed k) here))))
    (no_word_shown text ks t never.1)

-- none of the fixed words
pub no_words_fit : (text : List ℕ) (ks : List Keyword) → Fits (sort_of text) (λ t. AllByRecursion (λ k. IsFixed text k t → ⊥) ks) (none_of (words ks))
no_words_fit text ks =
    record {
      meets = λ t here. no_word_so text ks t (not-true (words ks (sort_of text t)) here);
      shows = λ t never. not_from_false (words ks (sort_of text t)) (no_word_shown text ks t never);
    }

-- a fixed word that passes a test
pub tested_fits : (text : List ℕ) (test : Keyword → Bool)
    → Fits (sort_of text) (λ t. (k : Keyword) → IsTrue (test k) → IsFixed text k t → ⊥) (none_of (word_where test))
tested_fits text test =
    record {
      meets = λ t here k tested is.
          both_ways (word_where test (sort_of text t)) (not-true (word_where test (sort_of text t)) here)
          (ap (word_where test) (fixed_sort text k t is) ∙ tested);
      shows = λ t never. not_from_false (word_where test (sort_of text t)) (at t (sort_of text t) refl never);
    }
  where
    at : (t : Token) (s : Sort) → sort_of text t ≡ s → ((k : Keyword) → IsTrue (test k) → IsFixed text k t → ⊥) → word_where test s ≡ false
    at t (Fixed k) is never = false_from_ne_true (test k) (λ tested. never k tested (fixed_so text k t is))
    at t (Sign m) is never = refl
    at t Plain is never = refl
    at t Quoted is never = refl
    at t Str is never = refl
    at t Blob is never = refl
    at t Int is never = refl
    at t Hex is never = refl
    at t Float is never = refl
    at t End is never = refl

-- ---- kinds

-- the kind of the tokens of a sort
abbrev pub kind_of : Sort → TokenKind
kind_of (Fixed k) = Kind.Word
kind_of (Sign m) = Kind.Op
kind_of Plain = Kind.Word
kind_of Quoted = Kind.Quoted
kind_of Str = Kind.Str
kind_of Blob = Kind.Blob
kind_of Int = Kind.Int
kind_of Hex = Kind.Hex
kind_of Float = Kind.Float
kind_of End = Kind.Word

kind_in : (kind : TokenKind) (bytes : List ℕ) → kind_of (sort_in kind bytes) ≡ kind
kind_in Kind.Word bytes = at (word_of (folded bytes))
  where
    at : (o : Option Keyword) → kind_of (sort_of_word o) ≡ Kind.Word
    at None = refl
    at (Some k) = refl
kind_in Kind.Quoted bytes = refl
kind_in Kind.Str bytes = refl
kind_in Kind.Blob bytes = refl
kind_in Kind.Int bytes = refl
kind_in Kind.Hex bytes = refl
kind_in Kind.Float bytes = refl
kind_in Kind.Op bytes = refl

-- the kind that a set of sorts tells
pub kind_fits : (text : List ℕ) (P : TokenKind → Type 0) (set : Set) → ((s : Sort) → set s ≡ true → P (kind_of s))
    → ((kind : TokenKind) (bytes : List ℕ) → P kind → set (sort_in kind bytes) ≡ true) → Fits (sort_of text) (λ t. P t.kind) set
unfolding sort_of
kind_fits text P set to back =
    record {
      meets = λ t here. subst P (kind_in t.kind (span text t)) (to (sort_in t.kind (span text t)) here);
      shows = λ t is. back t.kind (span text t) is;
    }

-- a token of a kind that has one sort
only_fits : (text : List ℕ) (kind : TokenKind) (s : Sort) → kind ≡ kind_of s → ((bytes : List ℕ) → sort_in kind bytes ≡ s)
    → Fits (sort_of text) (λ t. t.kind ≡ kind) (only s)
only_fits text kind s of sorted =
    kind_fits text (λ k. k ≡ kind) (only s)
    (λ r here. ap kind_of (same_sort-true r s here) ∙ sym of)
    (λ k bytes is. ap (λ v. only s (sort_in v bytes)) is ∙ ap (only s) (sorted bytes) ∙ same_sort-self s)

-- a text between quotes, and a blob
pub str_fits : (text : List ℕ) → Fits (sort_of text) (λ t. t.kind ≡ Kind.Str) (only Str)
str_fits text = only_fits text Kind.Str Str refl (λ bytes. refl)

pub blob_fits : (text : List ℕ) → Fits (sort_of text) (λ t. t.kind ≡ Kind.Blob) (only Blob)
blob_fits text = only_fits text Kind.Blob Blob refl (λ bytes. refl)

-- any sign
pub any_sign_fits : (text : List ℕ) → Fits (sort_of text) (λ t. t.kind ≡ Kind.Op) any_sign
any_sign_fits text = kind_fits text (λ k. k ≡ Kind.Op) any_sign to (λ k bytes is. ap (λ v. any_sign (sort_in v bytes)) is)
  where
    to : (s : Sort) → any_sign s ≡ true → kind_of s ≡ Kind.Op
    to (Sign m) here = refl
    to (Fixed k) here = absurd (cc)
    to Plain here = absurd (cc)
    to Quoted here = absurd (cc)
    to Str here = absurd (cc)
    to Blob here = absurd (cc)
    to Int here = absurd (cc)
    to Hex here = absurd (cc)
    to Float here = absurd (cc)
    to End here = absurd (cc)

-- a number
pub number_fits : (text : List ℕ) → Fits (sort_of text) (λ t. IsNumberKind t.kind) number
number_fits text = kind_fits text IsNumberKind number to back
  where
    to : (s : Sort) → number s ≡ true → IsNumberKind (kind_of s)
    to Int here = tt
    to Hex here = tt
    to Float here = tt
    to (Sign m) here = absurd (cc)
    to (Fixed k) here = absurd (cc)
    to Plain here = absurd (cc)
    to Quoted here = absurd (cc)
    to Str here = absurd (cc)
    to Blob here = absurd (cc)
    to End here = absurd (cc)

    back : (kind : TokenKind) (bytes : List ℕ) → IsNumberKind kind → number (sort_in kind bytes) ≡ true
    back Kind.Int bytes is = refl
    back Kind.Hex bytes is = refl
    back Kind.Float bytes is = refl
    back Kind.Word bytes is = absurd is
    back Kind.Quoted bytes is = absurd is
    back Kind.Str bytes is = absurd is
    back Kind.Blob bytes is = absurd is
    back Kind.Op bytes is = absurd is

-- ---- names

name_in : (text : List ℕ) (t : Token) (kind : TokenKind) → t.kind ≡ kind → name (sort_in kind (span text t)) ≡ true → IsNameKind kind × (reserved_word (sort_in kind (span text t)) ≡ false)
name_in text t Kind.Word is here = (tt, at (word_of (folded (span text t))) here)
  where
    at : (o : Option Keyword) → name (sort_of_word o) ≡ true → reserved_word (sort_of_word o) ≡ false
    at None here = refl
    at (Some k) here = not-true (is_reserved k) here
name_in text t Kind.Quoted is here = (tt, refl)
name_in text t Kind.Str is here = (tt, refl)
name_in text t Kind.Blob is here = absurd (cc)
name_in text t Kind.Int is here = absurd (cc)
name_in text t Kind.Hex is here = absurd (cc)
name_in text t Kind.Float is here = absurd (cc)
name_in text t Kind.Op is here = absurd (cc)

name_shown : (kind : TokenKind) (bytes : List ℕ) → IsNameKind kind → reserved_word (sort_in kind bytes) ≡ false → name (sort_in kind bytes) ≡ true
name_shown Kind.Word bytes named free = at (word_of (folded bytes)) free
  where
    at : (o : Option Keyword) → reserved_word (sort_of_word o) ≡ false → name (sort_of_word o) ≡ true
    at None free = refl
    at (Some k) free = not_from_false (is_reserved k) free
name_shown Kind.Quoted bytes named free = refl
name_shown Kind.Str bytes named free = refl
name_shown Kind.Blob bytes named free = absurd named
name_shown Kind.Int bytes named free = absurd named
name_shown Kind.Hex bytes named free = absurd named
name_shown Kind.Float bytes named free = absurd named
name_shown Kind.Op bytes named free = absurd named

-- a name
pub name_fits : (text : List ℕ) → Fits (sort_of text) (IsName text) name
unfolding sort_of
name_fits text =
    let free = tested_fits text is_reserved in
    record {
      meets = λ t here.
          let parts = name_in text t t.kind refl here in
          record { kind = parts.0; free = free.meets t (not_from_false (reserved_word (sort_in t.kind (span text t))) parts.1) };
      shows = λ t is.
          name_shown t.kind (span text t) is.kind
          (not-true (reserved_word (sort_in t.kind (span text t))) (free.shows t is.free));
    }

-- ---- sets made of sets

module _ {sort : Token → Sort} {P Q : Token → Type 0} {a b : Set} where
  -- both of two
  pub both_fits : Fits sort P a → Fits sort Q b → Fits sort (λ t. P t × Q t) (both a b)
  both_fits left right =
      record {
        meets = λ t here. let parts = and_parts (a (sort t)) (b (sort t)) here in (left.meets t parts.0, right.meets t parts.1);
        shows = λ t is. and_from (a (sort t)) (b (sort t)) (left.shows t is.0) (right.shows t is.1);
      }

  -- either of two
  pub either_fits : Fits sort P a → Fits sort Q b → Fits sort (λ t. P t ⊎ Q t) (either a b)
  either_fits left right =
      record {
        meets = λ t here. ⊎_elim (λ one. inl (left.meets t one)) (λ two. inr (right.meets t two)) (or_cases (a (sort t)) (b (sort t)) here);
        shows = λ t is.
            ⊎_elim (λ one. or_left (a (sort t)) (b (sort t)) (left.shows t one)) (λ two. or_right (a (sort t)) (b (sort t)) (right.shows t two)) is;
      }

-- what is asked, in other words
pub same_fits : {sort : Token → Sort} {P Q : Token → Type 0} {a : Set} → Fits sort P a → ((t : Token) → P t → Q t) → ((t : Token) → Q t → P t)
    → Fits sort Q a
same_fits fit to back = record { meets = λ t here. to t (fit.meets t here); shows = λ t is. fit.shows t (back t is) }

-- what is not asked
pub none_of_fits : {sort : Token → Sort} {P : Token → Type 0} {a : Set} → Fits sort P a → Fits sort (λ t. P t → ⊥) (none_of a)
none_of_fits {sort} {P} {a} fit =
    record {
      meets = λ t here is. both_ways (a (sort t)) (not-true (a (sort t)) here) (fit.shows t is);
      shows = λ t never. not_from_false (a (sort t)) (false_from_ne_true (a (sort t)) (λ here. never (fit.meets t here)));
    }
