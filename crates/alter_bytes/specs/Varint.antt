-- Variable-length integers (fileformat2.html, "Record Format").
use Rattle.std.specs.Prelude.{◌≡◌, ◌≤◌, ◌<◌, ℕ, zero, suc, ◌+◌, ◌-◌, ◌*◌, ◌/◌, ◌%◌, ◌^◌, ◌⊎◌, nat_lt, if◌then◌else◌, List, [], ◌∷◌, ◌++◌, length, drop, All, Option, Some, None}

-- the number that the low seven bits of the bytes make, the highest first
abbrev pub septets : List ℕ → ℕ
septets [] = 0
septets (b ∷ bs) = (b % 128) * 128 ^ length bs + septets bs

-- one to eight bytes of seven bits each: all but the last have the top bit set
pub record IsShortVarint (bytes : List ℕ) (v : ℕ) : Type 0 where
  pub front : List ℕ
  pub last : ℕ
  pub whole : bytes ≡ front ++ last ∷ []
  pub few : length front < 8
  pub continued : All (λ b. 128 ≤ b) front
  pub ended : last < 128
  pub value : v ≡ septets bytes

-- nine bytes: eight of seven bits each with the top bit set, and one of eight bits
pub record IsLongVarint (bytes : List ℕ) (v : ℕ) : Type 0 where
  pub front : List ℕ
  pub last : ℕ
  pub whole : bytes ≡ front ++ last ∷ []
  pub eight : length front ≡ 8
  pub continued : All (λ b. 128 ≤ b) front
  pub value : v ≡ septets front * 256 + last

-- the bytes are one varint, and its number is v
abbrev pub IsVarint : List ℕ → ℕ → Type 0
IsVarint bytes v = IsShortVarint bytes v ⊎ IsLongVarint bytes v

-- the number, and the length of the whole varint, where `high` is the number in its bytes so far and up to `more`
-- bytes of seven bits may still come
unfoldable pub varint_from : ℕ → ℕ → List ℕ → Option (ℕ × ℕ)
varint_from more high [] = None
varint_from zero high (b ∷ bs) = Some (high * 256 + b, 9)
varint_from (suc more) high (b ∷ bs) =
    if nat_lt b 128 then Some (high * 128 + b, 8 - more) else varint_from more (high * 128 + b % 128) bs

-- the number and the length of the varint at `at`, or none where the bytes end inside it
abbrev pub varint_at : List ℕ → ℕ → Option (ℕ × ℕ)
varint_at bytes at = varint_from 8 0 (drop at bytes)

-- the lowest n groups of seven bits of v, the highest first, each in a byte with the top bit set
unfoldable pub septet_bytes : ℕ → ℕ → List ℕ
septet_bytes zero v = []
septet_bytes (suc n) v = septet_bytes n (v / 128) ++ (128 + v % 128) ∷ []

-- how many groups of seven bits v has above its lowest one, counted up to n
unfoldable pub higher_septets : ℕ → ℕ → ℕ
higher_septets zero v = 0
higher_septets (suc n) v = if nat_lt v 128 then 0 else suc (higher_septets n (v / 128))

-- the shortest varint of a number below 2^64
unfoldable pub varint : ℕ → List ℕ
varint v =
    let n = higher_septets 8 v in
    if nat_lt n 8 then septet_bytes n (v / 128) ++ (v % 128) ∷ [] else septet_bytes 8 (v / 256) ++ (v % 256) ∷ []
