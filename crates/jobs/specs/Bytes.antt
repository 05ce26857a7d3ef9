-- Numbers of two and four bytes, most significant byte first. Assumes nothing.
use Rattle.std.specs.Prelude.{ℕ, ◌+◌, ◌-◌, ◌*◌, ◌/◌, ◌%◌, Bool, cond, List, [], ◌∷◌, ℤ, pos, negsuc, nat_lt, slice_index}

abbrev pub u16_at : List ℕ → ℕ → ℕ
u16_at bytes i = slice_index bytes i * 256 + slice_index bytes (i + 1)

abbrev pub u32_at : List ℕ → ℕ → ℕ
u32_at bytes i =
    slice_index bytes i * 16777216 + slice_index bytes (i + 1) * 65536 + slice_index bytes (i + 2) * 256 + slice_index bytes (i + 3)

abbrev pub u16_bytes : ℕ → List ℕ
u16_bytes n = (n / 256 % 256) ∷ (n % 256) ∷ []

abbrev pub u32_bytes : ℕ → List ℕ
u32_bytes n = (n / 16777216 % 256) ∷ (n / 65536 % 256) ∷ (n / 256 % 256) ∷ (n % 256) ∷ []

abbrev pub fits_u16 : ℕ → Bool
fits_u16 n = nat_lt n 65536

abbrev pub fits_u32 : ℕ → Bool
fits_u32 n = nat_lt n 4294967296

-- two's complement: four bytes from 2147483648 on stand for the number less 4294967296
abbrev pub to_signed : ℕ → ℤ
to_signed n = cond (nat_lt n 2147483648) (pos n) (negsuc (4294967295 - n))

abbrev pub from_signed : ℤ → ℕ
from_signed (pos n) = n
from_signed (negsuc n) = 4294967295 - n

abbrev pub fits_i32 : ℤ → Bool
fits_i32 (pos n) = nat_lt n 2147483648
fits_i32 (negsuc n) = nat_lt n 2147483648
