-- The checksum of a journal's record (fileformat2.html, "The Rollback Journal").
use Rattle.std.specs.Prelude.{ℕ, zero, suc, ◌+◌, ◌-◌, ◌*◌, ◌/◌, ◌%◌, ◌^◌, List, length, slice_index_or}

-- the nonce and the bytes at the first places of N - 200, N - 400 and so on, N the page's size; the sum wraps
abbrev pub sum_back : ℕ → List ℕ → ℕ → ℕ
sum_back nonce page zero = nonce
sum_back nonce page (suc places) = (sum_back nonce page places + slice_index_or page (length page - 200 * suc places) 0) % 2 ^ 32

-- the sum over all places that are not negative
abbrev pub checksum_of : ℕ → List ℕ → ℕ
checksum_of nonce page = sum_back nonce page (length page / 200)
