-- The laws of what is read as a word that is fixed only where a rule names it.
use Rattle.std.proofs.Common.{List, None, Some, [], ap, arith, false, inl, length, refl, subst, sym, true, ℕ, ◌&&◌, ◌∙◌, ◌∷◌, ◌≡◌}
use Rattle.std.proofs.lemmas.Bool.{and_from, and_parts, cond-true, or_left}
use Rattle.std.specs.Cmp.Lexicographic.{bytes_decides}
use Rattle.std.specs.Str.{str_eq_ignore_ascii_case}
use Rattle.common_laws.proofs.Options.{chosen}
use Rattle.sql_token.specs.Names.{folded}
use Rattle.sql_token.specs.Spelled.{one}
use Rattle.sql_token.specs.Token.{span}
use Rattle.sql_token.specs.declared.token.Token.{Token}
use Rattle.sql_token.specs.declared.token.TokenKind.{TokenKind}
use Rattle.sql_expr.specs.Leaf.{IsSpelledWord}
use Rattle.sql_reader.proofs.Laws.{Reads}
use Rattle.sql_reader.proofs.Outcomes.{same_outcome}
use Rattle.sql_reader.specs.Looks.{only}
use Rattle.sql_reader.specs.Sorts.{sort_in, sort_of, sort_of_word, word_of}
use Rattle.sql_reader.specs.declared.sort.Sort.{Sort}
use Rattle.sql_reader.specs.declared.sort.Sort.TheVariants.{Plain}
use Rattle.table_reading.specs.Words.{is_spelled, is_word_kind, read_spelled, rowid, spelled, stored, strict}
use Rattle.sql_token.specs.declared.token.TokenKind.TheVariants as Kind

-- the kind of words is one
word_kind : (kind : TokenKind) → is_word_kind kind ≡ true → kind ≡ Kind.Word
word_kind Kind.Word e = refl
word_kind Kind.Quoted e = absurd (cc)
word_kind Kind.Str e = absurd (cc)
word_kind Kind.Blob e = absurd (cc)
word_kind Kind.Int e = absurd (cc)
word_kind Kind.Hex e = absurd (cc)
word_kind Kind.Float e = absurd (cc)
word_kind Kind.Op e = absurd (cc)

module _ (text letters : List ℕ) where
  spelled_parts : (ts : List Token) (x : Token) (rest : List Token) → read_spelled text letters ts ≡ Some (x, rest)
      → (is_spelled text letters x ≡ true) × (ts ≡ x ∷ rest)
  spelled_parts [] x rest e = absurd (cc)
  spelled_parts (t ∷ ts) x rest e =
      let parts = chosen (is_spelled text letters t) (Some (t, ts)) (x, rest) e in
      let same = same_outcome t x ts rest parts.1 in (
        subst (λ v. is_spelled text letters v ≡ true) same.0 parts.0,
        ap (λ v. v ∷ ts) same.0 ∙ ap (λ l. x ∷ l) same.1,
      )

  -- a word that is read takes a token, whatever sorts there are
  pub spelled_takes : {sort : Token → Sort} {b : ℕ} → Reads sort Token (λ t. Unit {0}) (λ t. ⊥) one b (spelled text letters) (read_spelled text letters)
  spelled_takes =
      record {
        sound = λ ts x rest e. (tt, (spelled_parts ts x rest e).1);
        size = λ _ ts x rest e. let parts = spelled_parts ts x rest e in omega (arith, ap length parts.1);
        begins = λ x rest covers clear. absurd covers;
        complete = λ x rest covers clear. absurd covers;
        alike = λ ts most. refl;
      }

  -- the letters are in lower case, and those of no fixed word
  module _ (lower : folded letters ≡ letters) (free : word_of letters ≡ None) where
    spelled_so : (t : Token) → is_spelled text letters t ≡ true → IsSpelledWord text letters t
    spelled_so t here =
        let parts = and_parts (is_word_kind t.kind) (str_eq_ignore_ascii_case (span text t) letters) here in
        let decides = bytes_decides (folded (span text t)) (folded letters) in
        (word_kind t.kind parts.0, decides.0 parts.1 ∙ lower)

    spelled_shown : (t : Token) → IsSpelledWord text letters t → is_spelled text letters t ≡ true
    spelled_shown t is =
        let decides = bytes_decides (folded (span text t)) (folded letters) in
        and_from (is_word_kind t.kind) (str_eq_ignore_ascii_case (span text t) letters) (ap is_word_kind is.0) (decides.1 (is.1 ∙ sym lower))

    plain_sort : (t : Token) → IsSpelledWord text letters t → only Plain (sort_of text t) ≡ true
    unfolding sort_of
    plain_sort t is =
        ap (λ kind. only Plain (sort_in kind (span text t))) is.0 ∙ ap (λ bytes. only Plain (sort_of_word (word_of bytes))) is.1
        ∙ ap (λ o. only Plain (sort_of_word o)) free

    pub spelled_reads : {b : ℕ} → Reads (sort_of text) Token (IsSpelledWord text letters) (IsSpelledWord text letters) one b
        (spelled text letters) (read_spelled text letters)
    spelled_reads =
        record {
          sound = λ ts x rest e. let parts = spelled_parts ts x rest e in (spelled_so x parts.0, parts.1);
          size = λ _ ts x rest e. let parts = spelled_parts ts x rest e in omega (arith, ap length parts.1);
          begins = λ x rest covers clear.
              let here = only Plain (sort_of text x) in inl (or_left (here && true) false (and_from here true (plain_sort x covers) refl));
          complete = λ x rest covers clear. cond-true (is_spelled text letters x) (Some (x, rest)) None (spelled_shown x covers);
          alike = λ ts most. refl;
        }

-- STORED, ROWID and STRICT are spelled by no fixed word
stored_free : word_of stored ≡ None
unfolding word_of
stored_free = refl

rowid_free : word_of rowid ≡ None
unfolding word_of
rowid_free = refl

strict_free : word_of strict ≡ None
unfolding word_of
strict_free = refl

module _ (text : List ℕ) {b : ℕ} where
  pub stored_reads : Reads (sort_of text) Token (IsSpelledWord text stored) (IsSpelledWord text stored) one b (spelled text stored)
      (read_spelled text stored)
  stored_reads = spelled_reads text stored refl stored_free

  pub rowid_reads : Reads (sort_of text) Token (IsSpelledWord text rowid) (IsSpelledWord text rowid) one b (spelled text rowid)
      (read_spelled text rowid)
  rowid_reads = spelled_reads text rowid refl rowid_free

  pub strict_reads : Reads (sort_of text) Token (IsSpelledWord text strict) (IsSpelledWord text strict) one b (spelled text strict)
      (read_spelled text strict)
  strict_reads = spelled_reads text strict refl strict_free
