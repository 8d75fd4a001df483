-- A mask of low one bits gives a remainder.
use Rattle.std.proofs.Common.{◌≡◌, ℕ, ◌%◌, bit_and}
use Rattle.std.proofs.lemmas.Nat.{and_mask}

pub mask_1 : (n : ℕ) → bit_and n 1 ≡ n % 2
mask_1 n = and_mask n 1

pub mask_3 : (n : ℕ) → bit_and n 7 ≡ n % 8
mask_3 n = and_mask n 3

pub mask_4 : (n : ℕ) → bit_and n 15 ≡ n % 16
mask_4 n = and_mask n 4

pub mask_5 : (n : ℕ) → bit_and n 31 ≡ n % 32
mask_5 n = and_mask n 5

pub mask_6 : (n : ℕ) → bit_and n 63 ≡ n % 64
mask_6 n = and_mask n 6

pub mask_7 : (n : ℕ) → bit_and n 127 ≡ n % 128
mask_7 n = and_mask n 7

pub mask_8 : (n : ℕ) → bit_and n 255 ≡ n % 256
mask_8 n = and_mask n 8

pub mask_10 : (n : ℕ) → bit_and n 1023 ≡ n % 1024
mask_10 n = and_mask n 10

pub mask_16 : (n : ℕ) → bit_and n 65535 ≡ n % 65536
mask_16 n = and_mask n 16

pub ruleset masks = (mask_1, mask_3, mask_4, mask_5, mask_6, mask_7, mask_8, mask_10, mask_16)
