-- What a varint's bytes are, read back, and that the form written is the shortest.
use Rattle.std.proofs.Common.{◌≡◌, ℕ, zero, suc, ◌+◌, ◌-◌, ◌*◌, ◌/◌, ◌%◌, ◌^◌, ◌<◌, ◌≤◌, ◌⊎◌, inl, inr, List, [], ◌∷◌, ◌++◌, length, take, drop, Option, Some, None, refl, sym, ap, subst, ◌∙◌, arith, length-append, length-drop, append_assoc, add-one, set, ◌≢◌, IfSome, IfNone}
use Rattle.std.proofs.Math.Nat.{pow-suc, pow-le-pow_right}
use Rattle.std.proofs.lemmas.Bool.{cases_lt}
use Rattle.std.proofs.lemmas.Bool.Decides.{nat_tests}
use Rattle.std.proofs.lemmas.List.{drop-append-le, drop-drop, drop-set, drop_at, length-take-le, take-append-drop, take_at}
use Rattle.std.proofs.lemmas.List.Elements.{All-cons, All-contains, All-head, All-nil, All-push, All-tail, Contains-push}
use Rattle.std.specs.List.{All}
use Rattle.alter_bytes.specs.Varint.{IsLongVarint, IsShortVarint, IsVarint, higher_septets, septet_bytes, septets, varint, varint_at, varint_from}
use Rattle.common_laws.proofs.Lists.{drop_front, same_front}

-- a byte goes on
abbrev pub GoesOn : ℕ → Type 0
GoesOn b = 128 ≤ b

-- the last byte of seven bits, and one that goes on
pub varint_from-last : (more high b : ℕ) (bs : List ℕ) → b < 128
    → varint_from (suc more) high (b ∷ bs) ≡ Some (high * 128 + b, 8 - more)
unfolding varint_from
varint_from-last more high b bs h = grind (arith, nat_tests)

pub varint_from-on : (more high b : ℕ) (bs : List ℕ) → 128 ≤ b
    → varint_from (suc more) high (b ∷ bs) ≡ varint_from more (high * 128 + b % 128) bs
unfolding varint_from
varint_from-on more high b bs h = grind (arith, nat_tests)

pub varint_from-ninth : (high b : ℕ) (bs : List ℕ) → varint_from zero high (b ∷ bs) ≡ Some (high * 256 + b, 9)
unfolding varint_from
varint_from-ninth high b bs = refl

pub varint_from-nil : (more high : ℕ) → varint_from more high [] ≡ None
unfolding varint_from
varint_from-nil zero high = refl
varint_from-nil (suc more) high = refl

-- the number of one byte more
pub septets-push : (bs : List ℕ) (b : ℕ) → septets (bs ++ b ∷ []) ≡ septets bs * 128 + b % 128
septets-push [] b = omega arith
septets-push (a ∷ bs) b =
    let ih = septets-push bs b in
    let len : length (bs ++ b ∷ []) ≡ suc (length bs) = length-append bs (b ∷ []) ∙ omega arith in
    let power : 128 ^ length (bs ++ b ∷ []) ≡ 128 ^ length bs * 128 = ap (λ n. 128 ^ n) len ∙ pow-suc 128 (length bs) in
    rw (ih, power) (omega arith)

pub septets-lt : (bs : List ℕ) → septets bs < 128 ^ length bs
septets-lt [] = omega arith
septets-lt (b ∷ bs) =
    let ih = septets-lt bs in
    let top : b % 128 < 128 = omega arith in
    rw (pow-suc 128 (length bs)) (spread (b % 128) (128 ^ length bs) (septets bs) top ih)
  where
    spread : (d p s : ℕ) → d < 128 → s < p → d * p + s < p * 128
    spread d p s h k = grind arith

-- what reading a whole varint gives, whatever follows
pub varint_from-short : (more high : ℕ) (front : List ℕ) (last : ℕ) (rest : List ℕ) → more ≤ 8 → length front < more → All GoesOn front → last < 128
    → varint_from more high (front ++ last ∷ rest) ≡ Some (high * 128 ^ (length front + 1) + septets (front ++ last ∷ []), 9 + length front - more)
varint_from-short zero high front last rest few short on ends = absurd (omega arith)
varint_from-short (suc more) high [] last rest few short on ends =
    let value : high * 128 + last ≡ high * 128 ^ (0 + 1) + septets (last ∷ []) = omega arith in
    let len : 8 - more ≡ 9 + 0 - suc more = omega arith in
    varint_from-last more high last rest ends ∙ ap (λ v. Some (v, 8 - more)) value ∙ ap (λ n. Some (high * 128 ^ (0 + 1) + septets (last ∷ []), n)) len
varint_from-short (suc more) high (b ∷ front) last rest few short on ends =
    let ih = varint_from-short more (high * 128 + b % 128) front last rest (omega arith) (omega arith) (All-tail GoesOn b front on) ends in
    let size : length (front ++ last ∷ []) ≡ length front + 1 = length-append front (last ∷ []) in
    let power : 128 ^ (suc (length front) + 1) ≡ 128 ^ (length front + 1) * 128 = ap (λ n. 128 ^ n) (omega arith) ∙ pow-suc 128 (length front + 1) in
    let value : (high * 128 + b % 128) * 128 ^ (length front + 1) + septets (front ++ last ∷ []) ≡ high * 128 ^ (suc (length front) + 1) + septets (b ∷ front ++ last ∷ []) =
    rw (size, power) (omega arith) in
    let len : 9 + length front - more ≡ 9 + suc (length front) - suc more = omega arith in
    varint_from-on more high b (front ++ last ∷ rest) (All-head GoesOn b front on) ∙ ih
    ∙ ap (λ v. Some (v, 9 + length front - more)) value
    ∙ ap (λ n. Some (high * 128 ^ (suc (length front) + 1) + septets (b ∷ front ++ last ∷ []), n)) len

pub varint_from-long : (more high : ℕ) (front : List ℕ) (last : ℕ) (rest : List ℕ) → length front ≡ more → All GoesOn front
    → varint_from more high (front ++ last ∷ rest) ≡ Some ((high * 128 ^ more + septets front) * 256 + last, 9)
varint_from-long zero high [] last rest full on =
    varint_from-ninth high last rest ∙ ap (λ v. Some (v, 9)) (omega arith)
varint_from-long zero high (b ∷ front) last rest full on = absurd (omega arith)
varint_from-long (suc more) high [] last rest full on = absurd (omega arith)
varint_from-long (suc more) high (b ∷ front) last rest full on =
    let len : length front ≡ more = omega arith in
    let ih = varint_from-long more (high * 128 + b % 128) front last rest len (All-tail GoesOn b front on) in
    let power : 128 ^ suc more ≡ 128 ^ more * 128 = pow-suc 128 more in
    let value : (high * 128 + b % 128) * 128 ^ more + septets front ≡ high * 128 ^ suc more + septets (b ∷ front) = rw (len, power) (omega arith) in
    varint_from-on more high b (front ++ last ∷ rest) (All-head GoesOn b front on) ∙ ih ∙ ap (λ s. Some (s * 256 + last, 9)) value

pub varint_from-form : (a : List ℕ) (m : ℕ) (rest : List ℕ) → IsVarint a m → varint_from 8 0 (a ++ rest) ≡ Some (m, length a)
varint_from-form a m rest form = elim form [
  | inl s ↦
      let joined : a ++ rest ≡ s.front ++ s.last ∷ rest = ap (λ l. l ++ rest) s.whole ∙ append_assoc s.front (s.last ∷ []) rest in
      let read = varint_from-short 8 0 s.front s.last rest (omega arith) s.few s.continued s.ended in
      let value : 0 * 128 ^ (length s.front + 1) + septets (s.front ++ s.last ∷ []) ≡ m = omega (arith, s.value, ap septets s.whole) in
      let len : 9 + length s.front - 8 ≡ length a = omega (arith, ap length s.whole, length-append s.front (s.last ∷ [])) in
      ap (varint_from 8 0) joined ∙ read ∙ ap (λ v. Some (v, 9 + length s.front - 8)) value ∙ ap (λ n. Some (m, n)) len
  | inr l ↦
      let joined : a ++ rest ≡ l.front ++ l.last ∷ rest = ap (λ k. k ++ rest) l.whole ∙ append_assoc l.front (l.last ∷ []) rest in
      let read = varint_from-long 8 0 l.front l.last rest l.eight l.continued in
      let value : (0 * 128 ^ 8 + septets l.front) * 256 + l.last ≡ m = omega (arith, l.value) in
      let len : 9 ≡ length a = omega (arith, ap length l.whole, length-append l.front (l.last ∷ []), l.eight) in
      ap (varint_from 8 0) joined ∙ read ∙ ap (λ v. Some (v, 9)) value ∙ ap (λ n. Some (m, n)) len
]

-- two readings that are equal
pub same_reading : (m n j k : ℕ) → ◌≡◌ {A = Option (ℕ × ℕ)} (Some (m, j)) (Some (n, k)) → (m ≡ n) × (j ≡ k)
same_reading m n j k e = (ap number e, ap size e)
  where
    number : Option (ℕ × ℕ) → ℕ
    number None = 0
    number (Some r) = r.0

    size : Option (ℕ × ℕ) → ℕ
    size None = 0
    size (Some r) = r.1

-- no form begins another, and one form has one number
pub one_form : (a b x y : List ℕ) (m n : ℕ) → IsVarint a m → IsVarint b n → a ++ x ≡ b ++ y → (a ≡ b) × (m ≡ n)
one_form a b x y m n first second same =
    let read = same_reading m n (length a) (length b)
    (sym (varint_from-form a m x first) ∙ ap (varint_from 8 0) same ∙ varint_from-form b n y second) in
    (same_front a b x y same read.1, read.0)

-- where the bytes begin with a varint: the bytes before its last, that last one, and those behind
data Beginning (more : ℕ) : List ℕ → Type 0 where
  short : (front : List ℕ) (last : ℕ) (rest : List ℕ) → length front < more → All GoesOn front → last < 128 → Beginning more (front ++ last ∷ rest)
  long : (front : List ℕ) (last : ℕ) (rest : List ℕ) → length front ≡ more → All GoesOn front → Beginning more (front ++ last ∷ rest)
  cut : (front : List ℕ) → length front ≤ more → All GoesOn front → Beginning more front

begins_more : (more b : ℕ) (bs : List ℕ) → 128 ≤ b → Beginning more bs → Beginning (suc more) (b ∷ bs)
begins_more more b bs on (short front last rest few ons ends) =
    short (b ∷ front) last rest (omega arith) (All-cons GoesOn b front on ons) ends
begins_more more b bs on (long front last rest full ons) =
    long (b ∷ front) last rest (omega arith) (All-cons GoesOn b front on ons)
begins_more more b bs on (cut front few ons) = cut (b ∷ front) (omega arith) (All-cons GoesOn b front on ons)

beginning : (more : ℕ) (bs : List ℕ) → Beginning more bs
beginning more [] = cut [] (omega arith) (All-nil GoesOn)
beginning zero (b ∷ bs) = long [] b bs refl (All-nil GoesOn)
beginning (suc more) (b ∷ bs) = elim (cases_lt b 128) [
  | inl ends ↦ short [] b bs (omega arith) (All-nil GoesOn) ends
  | inr on ↦ begins_more more b bs on (beginning more bs)
]

varint_from-cut : (more high : ℕ) (front : List ℕ) → length front ≤ more → All GoesOn front → varint_from more high front ≡ None
varint_from-cut more high [] few on = varint_from-nil more high
varint_from-cut zero high (b ∷ front) few on = absurd (omega arith)
varint_from-cut (suc more) high (b ∷ front) few on =
    varint_from-on more high b front (All-head GoesOn b front on)
    ∙ varint_from-cut more (high * 128 + b % 128) front (omega arith) (All-tail GoesOn b front on)

-- what a reading shows of the bytes
pub record Reads (bytes : List ℕ) (v n : ℕ) : Type 0 where
  pub some : 1 ≤ n
  pub most : n ≤ 9
  pub within : n ≤ length bytes
  pub form : IsVarint (take n bytes) v

reads_form : (front : List ℕ) (last : ℕ) (rest : List ℕ) (w v n : ℕ) → length front ≤ 8 → IsVarint (front ++ last ∷ []) w
    → varint_from 8 0 (front ++ last ∷ rest) ≡ Some (v, n) → Reads (front ++ last ∷ rest) v n
reads_form front last rest w v n few is read =
    let len : length (front ++ last ∷ []) ≡ length front + 1 = length-append front (last ∷ []) in
    let whole : length (front ++ last ∷ rest) ≡ length front + suc (length rest) = length-append front (last ∷ rest) in
    let joined : (front ++ last ∷ []) ++ rest ≡ front ++ last ∷ rest = append_assoc front (last ∷ []) rest in
    let same = same_reading v w n (length (front ++ last ∷ []))
    (sym read ∙ sym (ap (varint_from 8 0) joined) ∙ varint_from-form (front ++ last ∷ []) w rest is) in
    let part : take n (front ++ last ∷ rest) ≡ front ++ last ∷ [] =
    ap (take n) (sym joined) ∙ take_at (front ++ last ∷ []) rest n (sym same.1) in
    record {
      some = omega (arith, same.1, len);
      most = omega (arith, same.1, len);
      within = omega (arith, same.1, len, whole);
      form = subst (λ l. IsVarint l v) (sym part) (subst (λ u. IsVarint (front ++ last ∷ []) u) (sym same.0) is);
    }

reads_at : (bs : List ℕ) (v n : ℕ) → Beginning 8 bs → varint_from 8 0 bs ≡ Some (v, n) → Reads bs v n
reads_at bs v n (short front last rest few on ends) read =
    let is : IsVarint (front ++ last ∷ []) (septets (front ++ last ∷ [])) =
    inl (record { front = front; last = last; whole = refl; few = few; continued = on; ended = ends; value = refl }) in
    reads_form front last rest (septets (front ++ last ∷ [])) v n (omega arith) is read
reads_at bs v n (long front last rest full on) read =
    let is : IsVarint (front ++ last ∷ []) (septets front * 256 + last) =
    inr (record { front = front; last = last; whole = refl; eight = full; continued = on; value = refl }) in
    reads_form front last rest (septets front * 256 + last) v n (omega arith) is read
reads_at bs v n (cut front few on) read = absurd (none v n (sym (varint_from-cut 8 0 front few on) ∙ read))
  where
    none : (v n : ℕ) → ◌≡◌ {A = Option (ℕ × ℕ)} None (Some (v, n)) → ⊥
    none v n e = cc

pub varint_from-reads : (bs : List ℕ) (v n : ℕ) → varint_from 8 0 bs ≡ Some (v, n) → Reads bs v n
varint_from-reads bs v n read = reads_at bs v n (beginning 8 bs) read

-- where nothing is read, no varint stands
pub varint_from-none : (bs : List ℕ) → varint_from 8 0 bs ≡ None → (n v : ℕ) → IsVarint (take n bs) v → ⊥
varint_from-none bs none n v form =
    apart v (length (take n bs))
    (sym none ∙ sym (ap (varint_from 8 0) (take-append-drop n bs)) ∙ varint_from-form (take n bs) v (drop n bs) form)
  where
    apart : (v k : ℕ) → ◌≡◌ {A = Option (ℕ × ℕ)} None (Some (v, k)) → ⊥
    apart v k e = cc

-- the groups of seven bits that are written
pub length-septet_bytes : (n v : ℕ) → length (septet_bytes n v) ≡ n
unfolding septet_bytes
length-septet_bytes zero v = refl
length-septet_bytes (suc n) v =
    length-append (septet_bytes n (v / 128)) ((128 + v % 128) ∷ []) ∙ omega (arith, length-septet_bytes n (v / 128))

pub septet_bytes-on : (n v : ℕ) → All GoesOn (septet_bytes n v)
unfolding septet_bytes
septet_bytes-on zero v = All-nil GoesOn
septet_bytes-on (suc n) v =
    All-push GoesOn (septet_bytes n (v / 128)) (128 + v % 128) (septet_bytes-on n (v / 128)) (omega arith)

-- a number below a power, less its lowest group
shorter : (n v : ℕ) → v < 128 ^ suc n → v / 128 < 128 ^ n
shorter n v h = let p = pow-suc 128 n in omega arith

longer : (n v : ℕ) → v / 128 < 128 ^ n → v < 128 ^ suc n
longer n v h = let p = pow-suc 128 n in omega arith

pub septets-septet_bytes : (n v : ℕ) → v < 128 ^ n → septets (septet_bytes n v) ≡ v
unfolding septet_bytes
septets-septet_bytes zero v h = omega arith
septets-septet_bytes (suc n) v h =
    let ih = septets-septet_bytes n (v / 128) (shorter n v h) in
    let low : (128 + v % 128) % 128 ≡ v % 128 = omega arith in
    septets-push (septet_bytes n (v / 128)) (128 + v % 128) ∙ omega (arith, ih, low)

-- how many groups a number has
pub higher_septets-le : (n v : ℕ) → higher_septets n v ≤ n
unfolding higher_septets
higher_septets-le zero v = omega arith
higher_septets-le (suc n) v = let ih = higher_septets-le n (v / 128) in grind (arith, nat_tests)

higher_septets-few : (n v : ℕ) → v < 128 → higher_septets (suc n) v ≡ 0
unfolding higher_septets
higher_septets-few n v h = grind (arith, nat_tests)

higher_septets-more : (n v : ℕ) → 128 ≤ v → higher_septets (suc n) v ≡ suc (higher_septets n (v / 128))
unfolding higher_septets
higher_septets-more n v h = grind (arith, nat_tests)

pub higher_septets-enough : (n v : ℕ) → v < 128 ^ suc n → v < 128 ^ suc (higher_septets n v)
unfolding higher_septets
higher_septets-enough zero v h = h
higher_septets-enough (suc n) v h = elim (cases_lt v 128) [
  | inl few ↦ rw (higher_septets-few n v few) (omega arith)
  | inr more ↦ rw (higher_septets-more n v more) (longer (suc (higher_septets n (v / 128))) v (higher_septets-enough n (v / 128) (shorter (suc n) v h)))
]

pub higher_septets-many : (n v : ℕ) → 128 ^ n ≤ v → n ≤ higher_septets n v
higher_septets-many zero v h = omega arith
higher_septets-many (suc n) v h =
    let more : 128 ≤ v = at_least n v h in
    let rest : 128 ^ n ≤ v / 128 = omega (arith, pow-suc 128 n) in
    rw (higher_septets-more n v more) (let ih = higher_septets-many n (v / 128) rest in omega arith)
  where
    at_least : (n v : ℕ) → 128 ^ suc n ≤ v → 128 ≤ v
    at_least n v h = let p : 128 ^ 1 ≤ 128 ^ suc n = pow-le-pow_right {n = 128} (omega arith) {i = 1} {j = suc n} (omega arith) in omega arith

pub higher_septets-least : (n m v : ℕ) → v < 128 ^ suc m → higher_septets n v ≤ m
higher_septets-least zero m v h = omega (arith, higher_septets-le zero v)
higher_septets-least (suc n) zero v h = rw (higher_septets-few n v (omega arith)) (omega arith)
higher_septets-least (suc n) (suc m) v h = elim (cases_lt v 128) [
  | inl few ↦ rw (higher_septets-few n v few) (omega arith)
  | inr more ↦ rw (higher_septets-more n v more) (let ih = higher_septets-least n m (v / 128) (shorter (suc m) v h) in omega arith)
]

-- the form that is written
pub varint-short : (v : ℕ) → higher_septets 8 v < 8 → varint v ≡ septet_bytes (higher_septets 8 v) (v / 128) ++ (v % 128) ∷ []
unfolding varint
varint-short v h = grind (arith, nat_tests)

pub varint-long : (v : ℕ) → 8 ≤ higher_septets 8 v → varint v ≡ septet_bytes 8 (v / 256) ++ (v % 256) ∷ []
unfolding varint
varint-long v h = grind (arith, nat_tests)

pub length-varint : (v : ℕ) → length (varint v) ≡ higher_septets 8 v + 1
length-varint v = elim (cases_lt (higher_septets 8 v) 8) [
  | inl few ↦
      ap length (varint-short v few) ∙ length-append (septet_bytes (higher_septets 8 v) (v / 128)) ((v % 128) ∷ [])
      ∙ omega (arith, length-septet_bytes (higher_septets 8 v) (v / 128))
  | inr many ↦
      let most = higher_septets-le 8 v in
      ap length (varint-long v many) ∙ length-append (septet_bytes 8 (v / 256)) ((v % 256) ∷ [])
      ∙ omega (arith, length-septet_bytes 8 (v / 256))
]

pub length-varint-pos : (v : ℕ) → 1 ≤ length (varint v)
length-varint-pos v = omega (arith, length-varint v)

pub length-varint-le : (v : ℕ) → length (varint v) ≤ 9
length-varint-le v = omega (arith, length-varint v, higher_septets-le 8 v)

pub varint-is : (v : ℕ) → v < 2 ^ 64 → IsVarint (varint v) v
varint-is v small = elim (cases_lt (higher_septets 8 v) 8) [
  | inl few ↦ subst (λ l. IsVarint l v) (sym (varint-short v few)) (inl (short_form v (higher_septets 8 v) few (enough v few)))
  | inr many ↦ subst (λ l. IsVarint l v) (sym (varint-long v many)) (inr (long_form v small))
]
  where
    enough : (v : ℕ) → higher_septets 8 v < 8 → v < 128 ^ suc (higher_septets 8 v)
    enough v few = elim (cases_lt v (2 ^ 63)) [
      | inl h ↦ higher_septets-enough 8 v h
      | inr h ↦ absurd (omega (arith, few, higher_septets-many 8 v (omega arith)))
    ]

    short_form : (v n : ℕ) → n < 8 → v < 128 ^ suc n → IsShortVarint (septet_bytes n (v / 128) ++ (v % 128) ∷ []) v
    short_form v n few below =
        let front = septets-septet_bytes n (v / 128) (shorter n v below) in
        let low : v % 128 % 128 ≡ v % 128 = omega arith in
        record {
          front = septet_bytes n (v / 128);
          last = v % 128;
          whole = refl;
          few = omega (arith, length-septet_bytes n (v / 128));
          continued = septet_bytes-on n (v / 128);
          ended = omega arith;
          value = sym (septets-push (septet_bytes n (v / 128)) (v % 128) ∙ omega (arith, front, low));
        }

    long_form : (v : ℕ) → v < 2 ^ 64 → IsLongVarint (septet_bytes 8 (v / 256) ++ (v % 256) ∷ []) v
    long_form v small =
        let front = septets-septet_bytes 8 (v / 256) (omega arith) in
        record {
          front = septet_bytes 8 (v / 256);
          last = v % 256;
          whole = refl;
          eight = length-septet_bytes 8 (v / 256);
          continued = septet_bytes-on 8 (v / 256);
          value = omega (arith, front);
        }

-- reading what was written gives the number back, whatever stands around it
pub varint_at-written : (v : ℕ) (front rest : List ℕ) (at : ℕ) → v < 2 ^ 64 → length front ≡ at
    → varint_at (front ++ varint v ++ rest) at ≡ Some (v, length (varint v))
varint_at-written v front rest at small e =
    ap (varint_from 8 0) (drop_front front (varint v) rest at e) ∙ varint_from-form (varint v) v rest (varint-is v small)

-- no form of the number is shorter
pub length-varint-least : (v : ℕ) (bytes : List ℕ) → IsVarint bytes v → length (varint v) ≤ length bytes
length-varint-least v bytes form = elim form [
  | inl s ↦
      let len : length bytes ≡ suc (length s.front) = ap length s.whole ∙ length-append s.front (s.last ∷ []) ∙ omega arith in
      let below : septets bytes < 128 ^ suc (length s.front) = subst (λ n. septets bytes < 128 ^ n) len (septets-lt bytes) in
      let least = higher_septets-least 8 (length s.front) v (omega (arith, s.value, below)) in
      omega (arith, len, least, length-varint v)
  | inr l ↦
      let len : length bytes ≡ length l.front + 1 = ap length l.whole ∙ length-append l.front (l.last ∷ []) in
      omega (arith, len, l.eight, length-varint-le v)
]

-- the steps as the code takes them: `more` bytes may still come, or none
pub varint_from-head : (more high b : ℕ) (bs rest : List ℕ) → rest ≡ b ∷ bs → 0 < more → b < 128
    → varint_from more high rest ≡ Some (high * 128 + b, 9 - more)
varint_from-head zero high b bs rest is some ends = absurd (omega arith)
varint_from-head (suc more) high b bs rest is some ends =
    let len : 8 - more ≡ 9 - suc more = omega arith in
    ap (varint_from (suc more) high) is ∙ varint_from-last more high b bs ends ∙ ap (λ n. Some (high * 128 + b, n)) len

pub varint_from-tail : (more high b : ℕ) (bs rest : List ℕ) → rest ≡ b ∷ bs → 0 < more → 128 ≤ b
    → varint_from more high rest ≡ varint_from (more - 1) (high * 128 + b % 128) bs
varint_from-tail zero high b bs rest is some on = absurd (omega arith)
varint_from-tail (suc more) high b bs rest is some on =
    let less : more ≡ suc more - 1 = omega arith in
    ap (varint_from (suc more) high) is ∙ varint_from-on more high b bs on ∙ ap (λ n. varint_from n (high * 128 + b % 128) bs) less

pub varint_from-end : (more high b : ℕ) (bs rest : List ℕ) → rest ≡ b ∷ bs → more ≡ 0
    → varint_from more high rest ≡ Some (high * 256 + b, 9)
varint_from-end more high b bs rest is none =
    ap (varint_from more high) is ∙ ap (λ n. varint_from n high (b ∷ bs)) none ∙ varint_from-ninth high b bs

-- the number of the bytes so far stays small
pub high_fits : (more high : ℕ) → more ≤ 8 → high < 128 ^ (8 - more) → high < 2 ^ 56
high_fits more high few small =
    let cap : 128 ^ (8 - more) ≤ 128 ^ 8 = pow-le-pow_right {n = 128} (omega arith) {i = 8 - more} {j = 8} (omega arith) in
    omega arith

pub high_more : (more high b : ℕ) → more ≤ 8 → 0 < more → high < 128 ^ (8 - more) → high * 128 + b % 128 < 128 ^ (8 - (more - 1))
high_more more high b few some small =
    let power : 128 ^ (8 - (more - 1)) ≡ 128 ^ (8 - more) * 128 = ap (λ n. 128 ^ n) (omega arith) ∙ pow-suc 128 (8 - more) in
    let low : b % 128 < 128 = omega arith in
    omega arith

pub higher_septets-none : (n v : ℕ) → (n ≡ 0) ⊎ (v < 128) → higher_septets n v ≡ 0
higher_septets-none zero v h = omega (arith, higher_septets-le zero v)
higher_septets-none (suc n) v (inl zero_left) = absurd (omega arith)
higher_septets-none (suc n) v (inr few) = higher_septets-few n v few

pub higher_septets-one_more : (n v : ℕ) → n ≢ 0 → 128 ≤ v → higher_septets n v ≡ 1 + higher_septets (n - 1) (v / 128)
higher_septets-one_more zero v some more = absurd (some refl)
higher_septets-one_more (suc n) v some more =
    let less : n ≡ suc n - 1 = omega arith in
    higher_septets-more n v more ∙ ap (λ k. suc (higher_septets k (v / 128))) less ∙ omega arith

-- a written group in front of those behind it
pub septet_bytes-set : (n v : ℕ) (out : List ℕ) → 0 < n → n ≤ length out
    → septet_bytes (n - 1) (v / 128) ++ drop (n - 1) (set out (n - 1) (128 + v % 128)) ≡ septet_bytes n v ++ drop n out
unfolding septet_bytes
septet_bytes-set zero v out some fits = absurd (omega arith)
septet_bytes-set (suc n) v out some fits =
    let less : suc n - 1 ≡ n = omega arith in
    let put : drop n (set out n (128 + v % 128)) ≡ (128 + v % 128) ∷ drop (n + 1) out = drop-set out n (128 + v % 128) (omega arith) in
    rw (less, put, add-one) (sym (append_assoc (septet_bytes n (v / 128)) ((128 + v % 128) ∷ []) (drop (suc n) out)))

pub septet_bytes-none : (n v : ℕ) (out : List ℕ) → n ≡ 0 → out ≡ septet_bytes n v ++ drop n out
unfolding septet_bytes
septet_bytes-none zero v out none = refl
septet_bytes-none (suc n) v out none = absurd (omega arith)

-- the whole form in front of what was there
pub written : (front : List ℕ) (n b : ℕ) (out : List ℕ) → length front ≡ n → n < length out
    → (take (n + 1) (front ++ drop n (set out n b)) ≡ front ++ b ∷ []) × (drop (n + 1) (front ++ drop n (set out n b)) ≡ drop (n + 1) out)
written front n b out len fits =
    let put : drop n (set out n b) ≡ b ∷ drop (n + 1) out = drop-set out n b fits in
    let joined : front ++ drop n (set out n b) ≡ (front ++ b ∷ []) ++ drop (n + 1) out =
    ap (λ l. front ++ l) put ∙ sym (append_assoc front (b ∷ []) (drop (n + 1) out)) in
    let size : length (front ++ b ∷ []) ≡ n + 1 = length-append front (b ∷ []) ∙ omega arith in (
      ap (take (n + 1)) joined ∙ take_at (front ++ b ∷ []) (drop (n + 1) out) (n + 1) size,
      ap (drop (n + 1)) joined ∙ drop_at (front ++ b ∷ []) (drop (n + 1) out) (n + 1) size,
    )

-- the two readings of what is read at a place
pub found_at : (bytes : List ℕ) (at : ℕ) (r : Option (ℕ × ℕ)) → r ≡ varint_at bytes at
    → IfSome r (λ read. (at + read.1 ≤ length bytes) × IsVarint (take read.1 (drop at bytes)) read.0)
found_at bytes at None e = tt
found_at bytes at (Some p) e =
    let h = varint_from-reads (drop at bytes) p.0 p.1 (sym e) in
    (omega (arith, h.some, h.within, length-drop at bytes), h.form)

pub none_at : (bytes : List ℕ) (at : ℕ) (r : Option (ℕ × ℕ)) → r ≡ varint_at bytes at
    → IfNone r ((n v : ℕ) → IsVarint (take n (drop at bytes)) v → ⊥)
none_at bytes at None e = varint_from-none (drop at bytes) (sym e)
none_at bytes at (Some p) e = tt

-- a varint's number is below 2^64
pub IsVarint-lt : (bytes : List ℕ) (v : ℕ) → All (λ b. b < 256) bytes → IsVarint bytes v → v < 2 ^ 64
IsVarint-lt bytes v small form = elim form [
  | inl s ↦
      let len : length bytes ≡ length s.front + 1 = ap length s.whole ∙ length-append s.front (s.last ∷ []) in
      let cap : 128 ^ length bytes ≤ 128 ^ 8 = pow-le-pow_right {n = 128} (omega arith) {i = length bytes} {j = 8} (omega (arith, s.few, len)) in
      omega (arith, cap, septets-lt bytes, s.value)
  | inr l ↦
      let high : septets l.front < 128 ^ 8 = subst (λ n. septets l.front < 128 ^ n) l.eight (septets-lt l.front) in
      let low : l.last < 256 = last_of l.front l.last (subst (All (λ b. b < 256)) l.whole small) in
      omega (arith, high, low, l.value)
]
  where
    last_of : (front : List ℕ) (last : ℕ) → All (λ b. b < 256) (front ++ last ∷ []) → last < 256
    last_of front last h =
        All-contains (λ b. b < 256) (front ++ last ∷ []) last h (Contains-push front last)

-- what is read at a place is read whatever follows, and in the part from that place on
pub varint_at-append : (bytes rest : List ℕ) (at v n : ℕ) → varint_at bytes at ≡ Some (v, n) → varint_at (bytes ++ rest) at ≡ Some (v, n)
varint_at-append bytes rest at v n read =
    let h = varint_from-reads (drop at bytes) v n read in
    let size : length (take n (drop at bytes)) ≡ n = length-take-le n (drop at bytes) h.within in
    let within : at ≤ length bytes = omega (arith, h.some, h.within, length-drop at bytes) in
    let split : drop at (bytes ++ rest) ≡ take n (drop at bytes) ++ (drop n (drop at bytes) ++ rest) =
    drop-append-le at bytes rest within ∙ ap (λ l. l ++ rest) (sym (take-append-drop n (drop at bytes)))
    ∙ append_assoc (take n (drop at bytes)) (drop n (drop at bytes)) rest in
    ap (varint_from 8 0) split ∙ varint_from-form (take n (drop at bytes)) v (drop n (drop at bytes) ++ rest) h.form
    ∙ ap (λ k. Some (v, k)) size

pub varint_at-drop : (bytes : List ℕ) (i j : ℕ) → varint_at (drop i bytes) j ≡ varint_at bytes (i + j)
varint_at-drop bytes i j = ap (varint_from 8 0) (drop-drop j i bytes)

-- a varint that stands at a place is the one that is read there, and what is read there stands there
pub varint_at-form : (bytes : List ℕ) (at n v : ℕ) → at + n ≤ length bytes → IsVarint (take n (drop at bytes)) v → varint_at bytes at ≡ Some (v, n)
varint_at-form bytes at n v within form =
    let size : length (take n (drop at bytes)) ≡ n = length-take-le n (drop at bytes) (omega (arith, within, length-drop at bytes)) in
    ap (varint_from 8 0) (sym (take-append-drop n (drop at bytes)))
    ∙ varint_from-form (take n (drop at bytes)) v (drop n (drop at bytes)) form ∙ ap (λ k. Some (v, k)) size

pub varint_at-reads : (bytes : List ℕ) (at v n : ℕ) → varint_at bytes at ≡ Some (v, n) → Reads (drop at bytes) v n × (at + n ≤ length bytes)
varint_at-reads bytes at v n read =
    let r = varint_from-reads (drop at bytes) v n read in
    (r, omega (arith, r.some, r.within, length-drop at bytes))

-- a number of seven bits is a varint of one byte
pub varint-one : (v : ℕ) → v < 128 → IsVarint (v ∷ []) v
varint-one v small =
    inl (record { front = []; last = v; whole = refl; few = omega arith; continued = All-nil (λ b. 128 ≤ b); ended = small; value = omega arith })
