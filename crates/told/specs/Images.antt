-- Chip images told a second time, and computed: sums, blocks, why a block is bad, the numbers in their order, and a small image written, damaged, listed and salvaged.
use Rattle.std.specs.Prelude.{◌≡◌, refl, List, [], ◌∷◌, ◌++◌, map, ℕ, take, replicate}
use Rattle.slices.specs.Changed.{map_at, stored}
use Rattle.parts.specs.Parts.{figures_of}
use Rattle.image.specs.declared.Sums.{Sums}
use Rattle.image.specs.Sums.{sums_from, sums_of}
use Rattle.image.specs.Blocks.{head_of, filled_up, block_of, reason_of, salvaged_of}
use Rattle.image.specs.Images.{imaged, unimaged, mended, bad_places, listed}
use Rattle.image.specs.Calls.{blocks_of, copy_number, salvage_number, found_bad, read_reply, salvage_reply, array_read, image_salvaged, list_salvaged}
use Rattle.m25p.specs.Calls.{packed_answer}
use Rattle.m25p.specs.Image.{with_blocks}

-- ---- sums and heads

abbrev pub two_sums : ℕ → ℕ → Sums
two_sums a b = record { first = a; second = b }

-- 504 bytes FF, and 504 bytes 00
abbrev pub all_ff : List ℕ
all_ff = replicate 504 0xFF

abbrev pub all_00 : List ℕ
all_00 = replicate 504 0x00

pub record Heads : Type 0 where
  -- 1, 3, 6 are the first sums; the second has 1, 4, 10
  pub steps : sums_from 0 0 (1 ∷ 2 ∷ 3 ∷ []) ≡ two_sums 6 10
  -- both wrap: 65,535 and 1 is 0, and so on
  pub wraps : sums_from 65535 65535 (1 ∷ 1 ∷ []) ≡ two_sums 1 0
  -- from the block number modulo 65,536, and from 0
  pub starts : map (λ (n : ℕ). sums_of n []) (0 ∷ 7 ∷ 65535 ∷ 65536 ∷ 65537 ∷ []) ≡ two_sums 0 0 ∷ two_sums 7 0 ∷ two_sums 65535 0 ∷ two_sums 0 0 ∷ two_sums 1 0 ∷ []
  pub of-FF : map (λ (n : ℕ). sums_of n all_ff) (0 ∷ 1 ∷ 8 ∷ 300 ∷ 33288 ∷ 65537 ∷ []) ≡ two_sums 62984 10980 ∷ two_sums 62985 11484 ∷ two_sums 62992 15012 ∷ two_sums 63284 31108 ∷ two_sums 30736 10916 ∷ two_sums 62985 11484 ∷ []
  -- 4 bytes and 2 bytes twice, little-endian
  pub head : head_of 0x04030201 (two_sums 0x0605 0x0807) ≡ 1 ∷ 2 ∷ 3 ∷ 4 ∷ 5 ∷ 6 ∷ 7 ∷ 8 ∷ []
  -- a block of FF in place 300
  pub block : block_of 300 all_ff ≡ 0x2C ∷ 0x01 ∷ 0x00 ∷ 0x00 ∷ 0x34 ∷ 0xF7 ∷ 0x84 ∷ 0x79 ∷ all_ff
  -- filled up with FF
  pub filled : filled_up (1 ∷ 2 ∷ 3 ∷ []) ≡ 1 ∷ 2 ∷ 3 ∷ replicate 501 0xFF
  pub full : filled_up all_00 ≡ all_00

-- computed by the checker
pub heads : Heads
unfolding sums_from sums_of block_of filled_up map_at
heads = record { steps = refl; wraps = refl; starts = refl; of-FF = refl; head = refl; block = refl; filled = refl; full = refl }

-- ---- good and bad

-- a block of place 0 with these bytes first, zeros behind them, and the sums as they are named
abbrev pub of_sums : ℕ → ℕ → ℕ → ℕ → List ℕ → List ℕ
of_sums a b c d front = 0 ∷ 0 ∷ 0 ∷ 0 ∷ a ∷ b ∷ c ∷ d ∷ take 504 (front ++ all_00)

pub record Bad : Type 0 where
  -- 512 zeros are good in place 0, and nowhere else
  pub zeros : map (λ (p : ℕ). reason_of p (replicate 512 0)) (0 ∷ 1 ∷ 256 ∷ 65536 ∷ []) ≡ 0 ∷ 1 ∷ 1 ∷ 1 ∷ []
  -- the number is compared with all its four bytes, though the sums are those of the place
  pub numbers : map (λ (n : ℕ). reason_of 1 (block_of n all_ff)) (1 ∷ 0 ∷ 2 ∷ 257 ∷ 65537 ∷ 16777217 ∷ []) ≡ 0 ∷ 1 ∷ 1 ∷ 1 ∷ 1 ∷ 1 ∷ []
  -- 5, 5, 5: 15 and 7545; each of the four bytes of the sums alone, and both sums exchanged
  pub sums : map (reason_of 0) (of_sums 15 0 121 29 (5 ∷ 5 ∷ 5 ∷ []) ∷ of_sums 14 0 121 29 (5 ∷ 5 ∷ 5 ∷ []) ∷ of_sums 15 1 121 29 (5 ∷ 5 ∷ 5 ∷ []) ∷ of_sums 15 0 120 29 (5 ∷ 5 ∷ 5 ∷ []) ∷ of_sums 15 0 121 30 (5 ∷ 5 ∷ 5 ∷ []) ∷ of_sums 121 29 15 0 (5 ∷ 5 ∷ 5 ∷ []) ∷ []) ≡ 0 ∷ 2 ∷ 2 ∷ 2 ∷ 2 ∷ 2 ∷ []
  -- a byte changed is seen, and two that change places; 6, 3, 6 in place of 5, 5, 5 is not
  pub seen : map (reason_of 0) (of_sums 15 0 121 29 (5 ∷ 5 ∷ 6 ∷ []) ∷ of_sums 11 0 162 21 (5 ∷ 6 ∷ []) ∷ of_sums 11 0 162 21 (6 ∷ 5 ∷ []) ∷ of_sums 15 0 121 29 (6 ∷ 3 ∷ 6 ∷ []) ∷ []) ≡ 2 ∷ 0 ∷ 2 ∷ 0 ∷ []
  -- number before sums
  pub both : reason_of 1 (of_sums 14 0 121 29 (5 ∷ 5 ∷ 5 ∷ [])) ≡ 1
  -- a good block stays, a bad one is that of FF
  pub stays : salvaged_of 0 (of_sums 15 0 121 29 (5 ∷ 5 ∷ 5 ∷ [])) ≡ of_sums 15 0 121 29 (5 ∷ 5 ∷ 5 ∷ [])
  pub lost : salvaged_of 8 (replicate 512 0xFF) ≡ 0x08 ∷ 0x00 ∷ 0x00 ∷ 0x00 ∷ 0x10 ∷ 0xF6 ∷ 0xA4 ∷ 0x3A ∷ all_ff

pub bad : Bad
unfolding sums_from sums_of block_of filled_up map_at reason_of salvaged_of
bad = record { zeros = refl; numbers = refl; sums = refl; seen = refl; both = refl; stays = refl; lost = refl }

-- ---- the numbers

pub record Numbers : Type 0 where
  -- for parts 0 to 6
  pub blocks : map blocks_of (0 ∷ 1 ∷ 2 ∷ 3 ∷ 4 ∷ 5 ∷ 6 ∷ []) ≡ 9 ∷ 261 ∷ 1041 ∷ 8323 ∷ 33289 ∷ 261 ∷ 1041 ∷ []
  -- parts above 6 at their full width; an image a byte short or long, or as long as the array; an array a byte short or long; in this order
  pub copies : copy_number 7 0 0 ∷ copy_number 258 524288 532992 ∷ copy_number 4294967295 0 0 ∷ copy_number 2 0 532991 ∷ copy_number 2 524288 532993 ∷ copy_number 2 524288 524288 ∷ copy_number 2 524287 532992 ∷ copy_number 2 524289 532992 ∷ copy_number 2 524288 532992 ∷ copy_number 6 524288 532992 ∷ copy_number 4 16777216 17043968 ∷ []
      ≡ 31 ∷ 31 ∷ 31 ∷ 32 ∷ 32 ∷ 32 ∷ 2 ∷ 2 ∷ 0 ∷ 0 ∷ 0 ∷ []
  -- whole places alone count
  pub salvages : salvage_number 7 0 0 ∷ salvage_number 256 4608 72 ∷ salvage_number 0 4607 0 ∷ salvage_number 0 4608 0 ∷ salvage_number 0 4608 71 ∷ salvage_number 0 4608 72 ∷ salvage_number 0 4608 79 ∷ salvage_number 4 17043968 266311 ∷ salvage_number 4 17043968 266312 ∷ []
      ≡ 31 ∷ 31 ∷ 32 ∷ 34 ∷ 34 ∷ 0 ∷ 0 ∷ 34 ∷ 0 ∷ []
  -- 33 with the first place, 0 without one
  pub found : map found_bad ([] ∷ (7 ∷ []) ∷ (0 ∷ 3 ∷ []) ∷ []) ≡ record { answer = 0; blocks = 0 } ∷ record { answer = 33; blocks = 7 } ∷ record { answer = 33; blocks = 0 } ∷ []
  -- over C the blocks stand in bits 16 to 47
  pub word : packed_answer (with_blocks (record { answer = 33; blocks = 33288 })) ∷ packed_answer (with_blocks (record { answer = 0; blocks = 33289 })) ∷ [] ≡ 0x82080021 ∷ 0x82090000 ∷ []

pub numbers : Numbers
unfolding figures_of blocks_of copy_number salvage_number packed_answer with_blocks
numbers = record { blocks = refl; copies = refl; salvages = refl; found = refl; word = refl }

-- ---- a small image: 600 bytes of 3C in two blocks, and three blocks of which two are bad

abbrev pub some_3c : List ℕ
some_3c = replicate 600 0x3C

abbrev pub first_block : List ℕ
first_block = 0 ∷ 0 ∷ 0 ∷ 0 ∷ 0x20 ∷ 0x76 ∷ 0x90 ∷ 0x82 ∷ replicate 504 0x3C

abbrev pub second_block : List ℕ
second_block = 1 ∷ 0 ∷ 0 ∷ 0 ∷ 0xE9 ∷ 0xAC ∷ 0x4C ∷ 0xC7 ∷ replicate 96 0x3C ++ replicate 408 0xFF

-- the second block in both of the first places, and zeros in the third
abbrev pub damaged : List ℕ
damaged = second_block ++ second_block ++ replicate 512 0

pub record Small : Type 0 where
  -- written over anything, byte by byte
  pub image : map (λ (i : ℕ). imaged some_3c i 0xAA) (0 ∷ 3 ∷ 4 ∷ 5 ∷ 6 ∷ 7 ∷ 8 ∷ 511 ∷ 512 ∷ 513 ∷ 516 ∷ 517 ∷ 518 ∷ 519 ∷ 520 ∷ 615 ∷ 616 ∷ 1023 ∷ []) ≡ 0 ∷ 0 ∷ 0x20 ∷ 0x76 ∷ 0x90 ∷ 0x82 ∷ 0x3C ∷ 0x3C ∷ 1 ∷ 0 ∷ 0xE9 ∷ 0xAC ∷ 0x4C ∷ 0xC7 ∷ 0x3C ∷ 0x3C ∷ 0xFF ∷ 0xFF ∷ []
  -- read back, the filling dropped
  pub array : map_at (unimaged (first_block ++ second_block)) (replicate 600 0xAA) ≡ some_3c
  pub good : bad_places (first_block ++ second_block) 2 ≡ []
  -- a block in another place, and one whose number is another
  pub places : bad_places damaged 3 ≡ 0 ∷ 2 ∷ []
  pub list : listed damaged (0 ∷ 2 ∷ []) ≡ 0 ∷ 0 ∷ 0 ∷ 0 ∷ 1 ∷ 0 ∷ 0 ∷ 0 ∷ 2 ∷ 0 ∷ 0 ∷ 0 ∷ 1 ∷ 0 ∷ 0 ∷ 0 ∷ []
  -- sums for a reason, a number of two bytes, no gap, and what lies behind is as it was
  pub stored : map_at (stored 0 (listed (0 ∷ 0 ∷ 0 ∷ 0 ∷ 1 ∷ replicate 507 0) (0 ∷ 258 ∷ []))) (replicate 18 0xAA) ≡ 0 ∷ 0 ∷ 0 ∷ 0 ∷ 2 ∷ 0 ∷ 0 ∷ 0 ∷ 2 ∷ 1 ∷ 0 ∷ 0 ∷ 1 ∷ 0 ∷ 0 ∷ 0 ∷ 0xAA ∷ 0xAA ∷ []
  -- salvaged: the bad ones FF, the good one as it was
  pub salvaged : map (λ (i : ℕ). mended damaged i 0xAA) (0 ∷ 4 ∷ 5 ∷ 8 ∷ 511 ∷ 512 ∷ 520 ∷ 616 ∷ 1024 ∷ 1028 ∷ 1032 ∷ 1535 ∷ []) ≡ 0 ∷ 0x08 ∷ 0xF6 ∷ 0xFF ∷ 0xFF ∷ 1 ∷ 0x3C ∷ 0xFF ∷ 2 ∷ 0x0A ∷ 0xFF ∷ 0xFF ∷ []
  -- 4,608 zeros: block 0 is good, block 1 is not; 2 comes before 33, and with 33 the array is as it came
  pub zeros : read_reply 0 (replicate 4608 0) 4095 ∷ read_reply 0 (replicate 4608 0) 4096 ∷ [] ≡ record { answer = 2; blocks = 0 } ∷ record { answer = 33; blocks = 1 } ∷ []
  pub array-kept : array_read 0 (replicate 4608 0) (replicate 4096 0xAA) ≡ replicate 4096 0xAA
  -- refused, all is as it came
  pub refused : salvage_reply 7 damaged 0 ≡ record { answer = 31; blocks = 0 }
  pub image-kept : image_salvaged 0 damaged [] ≡ damaged
  pub list-kept : list_salvaged 0 damaged (0xAA ∷ 0xBB ∷ []) ≡ 0xAA ∷ 0xBB ∷ []

pub small : Small
unfolding figures_of sums_from sums_of block_of filled_up map_at stored reason_of salvaged_of bad_places listed blocks_of copy_number salvage_number read_reply salvage_reply
small = record { image = refl; array = refl; good = refl; places = refl; list = refl; stored = refl; salvaged = refl; zeros = refl; array-kept = refl; refused = refl; image-kept = refl; list-kept = refl }
