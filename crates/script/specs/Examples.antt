-- Worked lines: what each one asks and what answers it, computed from the definitions.
use Rattle.std.specs.Prelude.{◌≡◌, refl, true, false, [], ◌∷◌, ◌++◌, replicate}
use Rattle.script.specs.Text.{ascii}
use Rattle.script.specs.declared.Command.TheVariants.{Exchange, Wait, PowerUp, Malformed}
use Rattle.script.specs.Lines.{digit_of, number_of, is_hex, is_number, is_exchange, is_wait, is_power_up, bytes_of, meaning}
use Rattle.script.specs.Answers.{decimal, hex_digit, hex_or_dash, answer_line, end_line}

-- lines that are read
pub record Read : Type 0 where
  pub exchange : meaning (ascii "x 1 0 9F000000") ≡ Exchange true 0 4
  pub its-bytes : bytes_of (ascii "x 1 0 9F000000") ≡ 0x9F ∷ 0 ∷ 0 ∷ 0 ∷ []
  pub either-case : bytes_of (ascii "x 0 3 aBfF09") ≡ 0xAB ∷ 0xFF ∷ 9 ∷ []
  pub w-low : meaning (ascii "x 0 3 aBfF09") ≡ Exchange false 3 3
  pub no_bytes : meaning (ascii "x 1 7") ≡ Exchange true 7 0
  pub space-after-bits : meaning (ascii "x 1 0 ") ≡ Malformed
  pub odd-digits : meaning (ascii "x 1 0 060") ≡ Malformed
  pub no_digit : meaning (ascii "x 1 0 0G") ≡ Malformed
  pub two-spaces : meaning (ascii "x 1 0  06") ≡ Malformed
  pub space-at-end : meaning (ascii "x 1 0 06 ") ≡ Malformed
  pub two-bytes-apart : meaning (ascii "x 1 0 06 04") ≡ Malformed
  pub w-above : meaning (ascii "x 2 0 06") ≡ Malformed
  pub bits_above : meaning (ascii "x 1 8 06") ≡ Malformed
  pub no_bits : meaning (ascii "x 1") ≡ Malformed
  pub capital-x : meaning (ascii "X 1 0 06") ≡ Malformed
  pub wait : meaning (ascii "w 3") ≡ Wait 3
  pub leading_zeros : meaning (ascii "w 000000000017") ≡ Wait 17
  pub longest-wait : meaning (ascii "w 4294967295") ≡ Wait 4294967295
  pub wait-above : meaning (ascii "w 4294967296") ≡ Malformed
  pub no-ticks : meaning (ascii "w ") ≡ Malformed
  pub hex-ticks : meaning (ascii "w 1A") ≡ Malformed
  pub power-up : meaning (ascii "p") ≡ PowerUp
  pub p-and-space : meaning (ascii "p ") ≡ Malformed
  pub carriage-return : meaning (ascii "p\r") ≡ Malformed
  pub empty : meaning [] ≡ Malformed
  pub as-long-as-may-be : meaning (ascii "w " ++ replicate 598 0x30) ≡ Wait 0
  pub too_long : meaning (ascii "w " ++ replicate 599 0x30) ≡ Malformed
  pub most_bytes : meaning (ascii "x 1 0 " ++ replicate 594 0x30) ≡ Exchange true 0 297

pub read : Read
unfolding digit_of number_of is_hex is_number is_exchange is_wait is_power_up bytes_of meaning
read = record {
  exchange = refl;
  its-bytes = refl;
  either-case = refl;
  w-low = refl;
  no_bytes = refl;
  space-after-bits = refl;
  odd-digits = refl;
  no_digit = refl;
  two-spaces = refl;
  space-at-end = refl;
  two-bytes-apart = refl;
  w-above = refl;
  bits_above = refl;
  no_bits = refl;
  capital-x = refl;
  wait = refl;
  leading_zeros = refl;
  longest-wait = refl;
  wait-above = refl;
  no-ticks = refl;
  hex-ticks = refl;
  power-up = refl;
  p-and-space = refl;
  carriage-return = refl;
  empty = refl;
  as-long-as-may-be = refl;
  too_long = refl;
  most_bytes = refl;
}

-- lines that are printed
pub record Written : Type 0 where
  pub response : answer_line 1 0 (0xFF ∷ 0 ∷ 0 ∷ 0x0C ∷ []) ≡ ascii "1 0 FF00000C\n"
  pub ignored : answer_line 5 12 (0xFF ∷ 0xFF ∷ 0xFF ∷ 0xFF ∷ []) ≡ ascii "5 12 FFFFFFFF\n"
  pub none : answer_line 6 0 [] ≡ ascii "6 0 -\n"
  pub malformed : answer_line 10 90 [] ≡ ascii "10 90 -\n"
  pub zero : decimal 0 ≡ ascii "0"
  pub greatest : decimal 18446744073709551615 ≡ ascii "18446744073709551615"
  pub end : end_line 8 ≡ ascii "end 8\n"

pub written : Written
unfolding decimal hex_digit hex_or_dash answer_line end_line
written = record {
  response = refl;
  ignored = refl;
  none = refl;
  malformed = refl;
  zero = refl;
  greatest = refl;
  end = refl;
}
