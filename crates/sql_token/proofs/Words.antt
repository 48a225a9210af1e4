-- A Word or a blob in front.
use Rattle.std.proofs.Common.{◌≡◌, ℕ, ◌+◌, ◌%◌, ◌<◌, ◌&&◌, Bool, true, false, List, [], ◌∷◌, ◌++◌, ◌⊎◌, inl, inr, length, drop, eqb, arith, refl, sym, ap, subst, ◌∙◌}
use Rattle.std.specs.Char.{is_ascii_hexdigit}
use Rattle.std.specs.List.{list_all, prefix_len}
use Rattle.std.proofs.lemmas.Bool.{and_parts, and_from, cond_both, eqb-true, eq-eqb, both_ways}
use Rattle.std.proofs.lemmas.List.{append_assoc, length-append, drop_at}
use Rattle.sql_token.specs.declared.class.Class.TheVariants.{Letter}
use Rattle.sql_token.specs.declared.token.TokenKind.{TokenKind}
use Rattle.sql_token.specs.declared.token.TokenKind.TheVariants.{Word, Quoted, Str, Blob, Int, Hex, Float, Op}
use Rattle.sql_token.specs.Byte.{starts_word, in_word, begins, is_x}
use Rattle.sql_token.specs.Form.{IsForm, IsBlob}
use Rattle.sql_token.specs.Scan.{class_of, blob_len, word_or_blob}
use Rattle.sql_token.specs.Token.{is_spoiled}
use Rattle.sql_token.proofs.Fronts.{Longest, IsFront, Tells, TellsLength, Suits, led, of_kind_tells, shorter_or_same}
use Rattle.sql_token.proofs.Runs.{Run, run_of, run_counts, run_exact}

-- the byte is a quote
abbrev pub is_quote : ℕ → Bool
is_quote b = eqb b 39

-- ---- a Word

-- a blob in front has a quote behind its first byte
blob_quote : (b : ℕ) (bytes tail rest : List ℕ) → bytes ≡ tail ++ rest → IsBlob (b ∷ tail) → (is_x b && begins is_quote bytes) ≡ true
blob_quote b bytes tail rest split form =
    let spelled = form.spelled in
    let first : b ≡ form.x = cc in
    let second : tail ≡ 39 ∷ (form.digits ++ 39 ∷ []) = cc in
    and_from (is_x b) (begins is_quote bytes) (ap is_x first ∙ form.marked) (ap (begins is_quote) (split ∙ ap (λ l. l ++ rest) second))

most_word : (b : ℕ) (bytes : List ℕ) → (is_x b && begins is_quote bytes) ≡ false
    → (kind : TokenKind) (tail rest : List ℕ) → bytes ≡ tail ++ rest → Suits kind Letter → IsForm kind (b ∷ tail)
    → (length (b ∷ tail) < 1 + prefix_len in_word bytes) ⊎ ((length (b ∷ tail) ≡ 1 + prefix_len in_word bytes) × (kind ≡ Word))
most_word b bytes no_blob Word tail rest split suits form =
    shorter_or_same Word (length (b ∷ tail)) (1 + prefix_len in_word bytes)
    (omega (arith, ap (prefix_len in_word) split ∙ run_counts in_word tail rest form.1))
most_word b bytes no_blob Blob tail rest split suits form =
    absurd (both_ways (is_x b && begins is_quote bytes) no_blob (blob_quote b bytes tail rest split form))
most_word b bytes no_blob Quoted tail rest split suits form = absurd suits
most_word b bytes no_blob Str tail rest split suits form = absurd suits
most_word b bytes no_blob Int tail rest split suits form = absurd suits
most_word b bytes no_blob Hex tail rest split suits form = absurd suits
most_word b bytes no_blob Float tail rest split suits form = absurd suits
most_word b bytes no_blob Op tail rest split suits form = absurd suits

-- a Word of more than one byte is never spoiled, and one of one byte is where it is `x` before a quote
word_closed : (b : ℕ) (run rest bytes : List ℕ) → bytes ≡ run ++ rest → (is_x b && begins is_quote bytes) ≡ false → is_spoiled Word (b ∷ run) rest ≡ false
word_closed b [] rest bytes split no_blob = ap (λ l. is_x b && begins is_quote l) (sym split) ∙ no_blob
word_closed b (c ∷ run) rest bytes split no_blob = refl

pub word_front : (b : ℕ) (bytes : List ℕ) → class_of b ≡ Letter → starts_word b ≡ true → (is_x b && begins is_quote bytes) ≡ false → IsFront (b ∷ bytes) Word (1 + prefix_len in_word bytes)
word_front b bytes is starts no_blob =
    let r : Run in_word bytes = run_of in_word bytes in
    record {
      best = record {
        front = b ∷ r.run;
        rest = r.rest;
        split = ap (λ l. b ∷ l) r.split;
        length_is = omega (arith, r.count);
        form = (starts, r.all);
        most = led (λ kind front rest. (length front < 1 + prefix_len in_word bytes) ⊎ ((length front ≡ 1 + prefix_len in_word bytes) × (kind ≡ Word))) b bytes Letter is (most_word b bytes no_blob);
      };
      closed = word_closed b r.run r.rest bytes r.split no_blob;
    }

-- ---- a blob, behind its first byte and the quote

-- the digits of a blob in front are the run of digits behind its quote
blob_digits : (b : ℕ) (bytes tail rest : List ℕ) → 39 ∷ bytes ≡ tail ++ rest → (form : IsBlob (b ∷ tail)) → bytes ≡ form.digits ++ 39 ∷ rest
blob_digits b bytes tail rest split form =
    let spelled = form.spelled in
    let second : tail ≡ 39 ∷ (form.digits ++ 39 ∷ []) = cc in
    let joined : 39 ∷ bytes ≡ 39 ∷ (form.digits ++ 39 ∷ rest) = split ∙ ap (λ l. l ++ rest) second ∙ ap (λ l. 39 ∷ l) (append_assoc form.digits (39 ∷ []) rest) in
    cc

blob_run : (b : ℕ) (bytes tail rest : List ℕ) → 39 ∷ bytes ≡ tail ++ rest → (form : IsBlob (b ∷ tail)) → prefix_len is_ascii_hexdigit bytes ≡ length form.digits
blob_run b bytes tail rest split form =
    ap (prefix_len is_ascii_hexdigit) (blob_digits b bytes tail rest split form) ∙ run_exact is_ascii_hexdigit form.digits (39 ∷ rest) form.hexadecimal refl

-- a Word before a quote has one byte
word_before_quote : (bytes tail rest : List ℕ) → 39 ∷ bytes ≡ tail ++ rest → list_all in_word tail ≡ true → tail ≡ []
word_before_quote bytes [] rest split all = refl
word_before_quote bytes (c ∷ tail) rest split all =
    let same : 39 ≡ c = cc in
    let computed : in_word 39 ≡ true = ap in_word same ∙ (and_parts (in_word c) (list_all in_word tail) all).0 in
    absurd (cc)

-- a blob is well formed
abbrev is_blob : List ℕ → Bool
is_blob bytes = begins is_quote (drop (prefix_len is_ascii_hexdigit bytes) bytes) && eqb (prefix_len is_ascii_hexdigit bytes % 2) 0

most_blob : (b : ℕ) (bytes : List ℕ)
    → (kind : TokenKind) (tail rest : List ℕ) → 39 ∷ bytes ≡ tail ++ rest → Suits kind Letter → IsForm kind (b ∷ tail)
    → (length (b ∷ tail) < 3 + prefix_len is_ascii_hexdigit bytes) ⊎ ((length (b ∷ tail) ≡ 3 + prefix_len is_ascii_hexdigit bytes) × (kind ≡ Blob))
most_blob b bytes Word tail rest split suits form = inl (omega (arith, ap length (word_before_quote bytes tail rest split form.1)))
most_blob b bytes Blob tail rest split suits form =
    inr (omega (arith, ap length form.spelled, length-append form.digits (39 ∷ []), blob_run b bytes tail rest split form), refl)
most_blob b bytes Quoted tail rest split suits form = absurd suits
most_blob b bytes Str tail rest split suits form = absurd suits
most_blob b bytes Int tail rest split suits form = absurd suits
most_blob b bytes Hex tail rest split suits form = absurd suits
most_blob b bytes Float tail rest split suits form = absurd suits
most_blob b bytes Op tail rest split suits form = absurd suits

-- a first byte that is a quote
begins_quote : (bytes : List ℕ) → begins is_quote bytes ≡ true → (rest : List ℕ) × (bytes ≡ 39 ∷ rest)
begins_quote [] found = absurd (cc)
begins_quote (c ∷ bytes) found = (bytes, ap (λ k. k ∷ bytes) (eqb-true c 39 found))

blob_front : (b : ℕ) (bytes : List ℕ) → class_of b ≡ Letter → is_x b ≡ true → is_blob bytes ≡ true → IsFront (b ∷ 39 ∷ bytes) Blob (3 + prefix_len is_ascii_hexdigit bytes)
blob_front b bytes is marked well =
    let r : Run is_ascii_hexdigit bytes = run_of is_ascii_hexdigit bytes in
    let parts = and_parts (begins is_quote (drop (prefix_len is_ascii_hexdigit bytes) bytes)) (eqb (prefix_len is_ascii_hexdigit bytes % 2) 0) well in
    let after : drop (prefix_len is_ascii_hexdigit bytes) bytes ≡ r.rest = ap (drop (prefix_len is_ascii_hexdigit bytes)) r.split ∙ drop_at r.run r.rest _ (sym r.count) in
    let quote = begins_quote r.rest (ap (begins is_quote) (sym after) ∙ parts.0) in
    record {
      best = record {
        front = b ∷ 39 ∷ (r.run ++ 39 ∷ []);
        rest = quote.0;
        split = ap (λ l. b ∷ 39 ∷ l) (r.split ∙ ap (λ l. r.run ++ l) quote.1 ∙ sym (append_assoc r.run (39 ∷ []) quote.0));
        length_is = omega (arith, length-append r.run (39 ∷ []), r.count);
        form = record { x = b; digits = r.run; spelled = refl; marked = marked; hexadecimal = r.all; even = ap (λ k. k % 2) (sym r.count) ∙ eqb-true (prefix_len is_ascii_hexdigit bytes % 2) 0 parts.1 };
        most = led (λ kind front rest. (length front < 3 + prefix_len is_ascii_hexdigit bytes) ⊎ ((length front ≡ 3 + prefix_len is_ascii_hexdigit bytes) × (kind ≡ Blob))) b (39 ∷ bytes) Letter is (most_blob b bytes);
      };
      closed = refl;
    }

-- what begins as a blob and is none
none_blob : (b : ℕ) (bytes : List ℕ) → is_x b ≡ true → is_blob bytes ≡ false
    → (kind : TokenKind) (tail rest : List ℕ) → 39 ∷ bytes ≡ tail ++ rest → Suits kind Letter → IsForm kind (b ∷ tail)
    → is_spoiled kind (b ∷ tail) rest ≡ false → Longest (b ∷ 39 ∷ bytes) (b ∷ tail) → ⊥
none_blob b bytes marked ill Word tail rest split suits form closed longest =
    let one = word_before_quote bytes tail rest split form.1 in
    let quote : 39 ∷ bytes ≡ rest = split ∙ ap (λ l. l ++ rest) one in
    both_ways (is_x b && begins is_quote rest)
    (subst (λ l. is_spoiled Word (b ∷ l) rest ≡ false) one closed)
    (and_from (is_x b) (begins is_quote rest) marked (ap (begins is_quote) (sym quote)))
none_blob b bytes marked ill Blob tail rest split suits form closed longest =
    let count = blob_run b bytes tail rest split form in
    let digits = blob_digits b bytes tail rest split form in
    let after : drop (prefix_len is_ascii_hexdigit bytes) bytes ≡ 39 ∷ rest = ap (drop (prefix_len is_ascii_hexdigit bytes)) digits ∙ drop_at form.digits (39 ∷ rest) _ (sym count) in
    both_ways (is_blob bytes) ill
    (and_from (begins is_quote (drop (prefix_len is_ascii_hexdigit bytes) bytes)) (eqb (prefix_len is_ascii_hexdigit bytes % 2) 0)
    (ap (begins is_quote) after) (eq-eqb (prefix_len is_ascii_hexdigit bytes % 2) 0 (ap (λ k. k % 2) count ∙ form.even)))
none_blob b bytes marked ill Quoted tail rest split suits form closed longest = absurd suits
none_blob b bytes marked ill Str tail rest split suits form closed longest = absurd suits
none_blob b bytes marked ill Int tail rest split suits form closed longest = absurd suits
none_blob b bytes marked ill Hex tail rest split suits form closed longest = absurd suits
none_blob b bytes marked ill Float tail rest split suits form closed longest = absurd suits
none_blob b bytes marked ill Op tail rest split suits form closed longest = absurd suits

blob_tells : (b : ℕ) (bytes : List ℕ) → class_of b ≡ Letter → is_x b ≡ true → TellsLength (b ∷ 39 ∷ bytes) Blob (blob_len bytes)
blob_tells b bytes is marked =
    cond_both (is_blob bytes) _ _ (TellsLength (b ∷ 39 ∷ bytes) Blob)
    (blob_front b bytes is marked)
    (λ ill. led (λ kind front rest. is_spoiled kind front rest ≡ false → Longest (b ∷ 39 ∷ bytes) front → ⊥) b (39 ∷ bytes) Letter is (none_blob b bytes marked ill))

-- the blob behind a first byte, before which a quote stands
blob_behind : (b : ℕ) (bytes : List ℕ) → class_of b ≡ Letter → is_x b ≡ true → begins is_quote bytes ≡ true → TellsLength (b ∷ bytes) Blob (blob_len (drop 1 bytes))
blob_behind b bytes is marked quoted =
    let found = begins_quote bytes quoted in
    subst (λ l. TellsLength (b ∷ l) Blob (blob_len (drop 1 l))) (sym found.1) (blob_tells b found.0 is marked)

pub word_or_blob_tells : (b : ℕ) (bytes : List ℕ) → class_of b ≡ Letter → starts_word b ≡ true → Tells (b ∷ bytes) (word_or_blob b bytes)
unfolding word_or_blob
word_or_blob_tells b bytes is starts =
    cond_both (is_x b && begins is_quote bytes) _ _ (Tells (b ∷ bytes))
    (λ blob. let parts = and_parts (is_x b) (begins is_quote bytes) blob in of_kind_tells (b ∷ bytes) Blob (blob_len (drop 1 bytes)) (blob_behind b bytes is parts.0 parts.1))
    (word_front b bytes is starts)
