-- The values of a script's members are read as they were written.
use Rattle.std.proofs.Common.{◌≡◌, ℕ, zero, suc, ◌^◌, ◌<◌, ◌≤◌, Bool, true, false, cond, List, [], ◌∷◌, length, map, Result, Ok, Err, refl, sym, ap, ◌∙◌, arith, decimal}
use Rattle.std.specs.Prelude.{nat_lt, nat_le, slice_index, not, ◌&&◌, ◌==◌}
use Rattle.std.proofs.lemmas.Bool.{false≢true}
use Rattle.std.specs.Int.{to_be_bytes, from_be_bytes, w32}
use Rattle.std.specs.List.{list_all}
use Rattle.std.specs.Char.{is_ascii_digit}
use Rattle.std.specs.Str.Parse.{digits_value}
use Rattle.std.proofs.lemmas.Bool.Decides.{nat_tests}
use Rattle.std.proofs.lemmas.Fmt.{digits_decimal, digits_value-decimal, decimal_nonempty, length-decimal-le}
use Rattle.std.proofs.lemmas.List.{length-map}
use Rattle.std.proofs.lemmas.Nat.{from_be_bytes-to_be_bytes_4}
use Rattle.hex.specs.Hex.{IsBytes}
use Rattle.hex.proofs.HexLemmas.{decode_of-encode_lower}
use Rattle.serde_json.specs.Data.{Data}
use Rattle.json_forms.specs.Lists.{read_all}
use Rattle.json_forms.proofs.Reading.{list_of-items_of, read_all-written}
use Rattle.program_forms.specs.Written.{number_data, hex_data, is_byte, is_address}
use Rattle.program_forms.proofs.RoundTrip.{and-left, and-right, list_all-at}
use Rattle.script_types.specs.declared.ScriptCause.{ScriptCause}
use Rattle.script_types.specs.declared.ScriptCause.TheVariants as cause
use Rattle.script_forms.proofs.Digits.{numerals}
use Rattle.script_forms.specs.Results.{◌>>=◌}
use Rattle.script_forms.specs.Values.{number_in, below, place_in, counted, list_in, hex_or_fault, hex_in, sized, address_in, code_in, value_in, frame_in, frames_in, filter_of_digits, filter_of_text, filter_name_in}
use Rattle.script_writing.specs.Limits.{is_within, is_frame, are_frames, is_value}
use Rattle.script_writing.specs.Written.{list_data, frames_data, code_data, filter_name_data}

-- ---- tests

pub at_most : (low high n : ℕ) → is_within low high n ≡ true → n ≤ high
at_most low high n h = grind (arith, nat_tests)

pub up_to : (high n : ℕ) → n ≤ high → is_within 0 high n ≡ true
up_to high n h = grind (arith, nat_tests)

pub le-from_test : (m n : ℕ) → nat_le m n ≡ true → m ≤ n
le-from_test m n h = grind (arith, nat_tests)

pub lt-from_test : (m n : ℕ) → nat_lt m n ≡ true → m < n
lt-from_test m n h = grind (arith, nat_tests)

pub lt-test : (m n : ℕ) → m < n → nat_lt m n ≡ true
lt-test m n h = grind (arith, nat_tests)

le-test : (m n : ℕ) → m ≤ n → nat_le m n ≡ true
le-test m n h = grind (arith, nat_tests)

-- what a test guards
pub guarded : {A : Type 0} (b : Bool) (good bad : A) → b ≡ true → cond b good bad ≡ good
guarded b good bad h = ap (λ test. cond test good bad) h

-- what the failure of a test guards
pub unless : {A : Type 0} (b : Bool) (bad good : A) → not b ≡ true → cond b bad good ≡ good
unless true bad good h = absurd (false≢true h)
unless false bad good h = refl

both : (a b : Bool) → a ≡ true → b ≡ true → (a && b) ≡ true
both a b h k = ap (λ test. test && b) h ∙ k

-- ---- numbers

pub number_in-number_data : (low high n : ℕ) → is_within low high n ≡ true → number_in low high (number_data n) ≡ Ok n
number_in-number_data low high n h = guarded (is_within low high n) (Ok n) (Err cause.Range) h

pub place_in-number_data : (high count n : ℕ) → n ≤ high → nat_lt n count ≡ true → place_in high count (number_data n) ≡ Ok n
place_in-number_data high count n h k =
    ap (λ r. r >>= below count) (number_in-number_data 0 high n (up_to high n h)) ∙ guarded (nat_lt n count) (Ok n) (Err cause.Range) k

-- ---- lists

list_in-list_data : (low high : ℕ) (ds : List Data) → is_within low high (length ds) ≡ true → list_in low high (list_data ds) ≡ Ok ds
list_in-list_data low high ds h =
    ap (counted low high) (list_of-items_of ds) ∙ guarded (is_within low high (length ds)) (Ok ds) (Err cause.TooMany) h

pub list_in-written : {A : Type 0} (low high : ℕ) (write : A → Data) (xs : List A) → is_within low high (length xs) ≡ true → list_in low high (list_data (map write xs)) ≡ Ok (map write xs)
list_in-written low high write xs h =
    list_in-list_data low high (map write xs) (ap (is_within low high) (length-map xs write) ∙ h)

-- each value by itself
pub read_all-each : {A E : Type 0} (read : Data → Result A E) (write : A → Data) (test : A → Bool) → ((x : A) → test x ≡ true → read (write x) ≡ Ok x)
    → (xs : List A) → list_all test xs ≡ true → read_all (λ before. read) [] (map write xs) ≡ Ok xs
read_all-each read write test each xs h =
    read_all-written (λ before. read) write [] xs (λ done x rest e. each x (list_all-at test done x rest (ap (list_all test) (sym e) ∙ h)))

-- ---- hexadecimal digits

byte-below : (n : ℕ) → is_byte n ≡ true → n < 256
byte-below n h = lt-from_test n 256 h

IsBytes-list_all : (xs : List ℕ) → list_all is_byte xs ≡ true → IsBytes xs
IsBytes-list_all [] h i = omega arith
IsBytes-list_all (x ∷ xs) h zero = byte-below x (and-left (is_byte x) _ h)
IsBytes-list_all (x ∷ xs) h (suc i) = IsBytes-list_all xs (and-right (is_byte x) _ h) i

hex_in-bytes : (bytes : List ℕ) → IsBytes bytes → hex_in (hex_data bytes) ≡ Ok bytes
hex_in-bytes bytes h = ap hex_or_fault (decode_of-encode_lower bytes h)

hex_in-hex_data : (bytes : List ℕ) → list_all is_byte bytes ≡ true → hex_in (hex_data bytes) ≡ Ok bytes
hex_in-hex_data bytes h = hex_in-bytes bytes (IsBytes-list_all bytes h)

pub address_in-hex_data : (address : List ℕ) → is_address address ≡ true → address_in (hex_data address) ≡ Ok address
address_in-hex_data address h =
    ap (λ r. r >>= sized 6) (hex_in-hex_data address (and-right (length address == 6) _ h))
    ∙ guarded (length address == 6) (Ok address) (Err cause.Range) (and-left _ _ h)

IsBytes-to_be_bytes : (n i : ℕ) → slice_index (to_be_bytes w32 n) i < 256
IsBytes-to_be_bytes n zero = omega arith
IsBytes-to_be_bytes n (suc zero) = omega arith
IsBytes-to_be_bytes n (suc (suc zero)) = omega arith
IsBytes-to_be_bytes n (suc (suc (suc zero))) = omega arith
IsBytes-to_be_bytes n (suc (suc (suc (suc i)))) = omega arith

abbrev four_bytes : List ℕ → Result ℕ ScriptCause
four_bytes bytes = sized 4 bytes >>= (λ four. Ok (from_be_bytes w32 four))

pub code_in-code_data : (code : ℕ) → nat_lt code 4294967296 ≡ true → code_in (code_data code) ≡ Ok code
code_in-code_data code h =
    ap (λ r. r >>= four_bytes) (hex_in-bytes (to_be_bytes w32 code) (IsBytes-to_be_bytes code))
    ∙ ap Ok (from_be_bytes-to_be_bytes_4 code (lt-from_test code 4294967296 h))

pub value_in-hex_data : (value : List ℕ) → is_value value ≡ true → value_in (hex_data value) ≡ Ok value
value_in-hex_data value h =
    ap (λ r. r >>= (λ bytes. cond (nat_le (length bytes) 8) (Ok bytes) (Err cause.Range))) (hex_in-hex_data value (and-right (nat_le (length value) 8) _ h))
    ∙ guarded (nat_le (length value) 8) (Ok value) (Err cause.Range) (and-left _ _ h)

frame_in-hex_data : (frame : List ℕ) → is_frame frame ≡ true → frame_in (hex_data frame) ≡ Ok frame
frame_in-hex_data frame h =
    ap (λ r. r >>= (λ bytes. cond (is_within 14 1518 (length bytes)) (Ok bytes) (Err cause.FrameLength))) (hex_in-hex_data frame (and-right (is_within 14 1518 (length frame)) _ h))
    ∙ guarded (is_within 14 1518 (length frame)) (Ok frame) (Err cause.FrameLength) (and-left _ _ h)

pub frames_in-frames_data : (frames : List (List ℕ)) → are_frames frames ≡ true → frames_in (frames_data frames) ≡ Ok frames
frames_in-frames_data frames h =
    ap (λ r. r >>= read_all (λ before. frame_in) []) (list_in-written 1 8 hex_data frames (and-left _ _ h))
    ∙ read_all-each frame_in hex_data is_frame frame_in-hex_data frames (and-right (is_within 1 8 (length frames)) _ h)

-- ---- names of filters

filter_of_digits-decimal : (n : ℕ) → n ≤ 999999999 → filter_of_digits (decimal n) ≡ Ok n
filter_of_digits-decimal n h =
    let wide : n < 2 ^ 64 = omega arith in
    let some : nat_lt 0 (length (decimal n)) ≡ true = lt-test 0 (length (decimal n)) (decimal_nonempty n wide) in
    let few : nat_le (length (decimal n)) 9 ≡ true = le-test (length (decimal n)) 9 (length-decimal-le 9 n (omega arith) (omega arith) wide) in
    let digits : list_all is_ascii_digit (decimal n) ≡ true = digits_decimal numerals n wide in
    guarded (list_all is_ascii_digit (decimal n) && (nat_lt 0 (length (decimal n)) && nat_le (length (decimal n)) 9)) (Ok (digits_value 10 (decimal n))) (Err cause.Range)
    (both (list_all is_ascii_digit (decimal n)) _ digits (both (nat_lt 0 (length (decimal n))) _ some few))
    ∙ ap Ok (digits_value-decimal numerals n wide)

filter_of_text-digits : (digits : List ℕ) → filter_of_text (102 ∷ digits) ≡ filter_of_digits digits
filter_of_text-digits digits =
    guarded (nat_lt 0 (length (102 ∷ digits)) && true) (filter_of_digits digits) (Err cause.Range)
    (both (nat_lt 0 (length (102 ∷ digits))) true (lt-test 0 (length (102 ∷ digits)) (omega arith)) refl)

pub filter_name_in-filter_name_data : (n : ℕ) → nat_le n 999999999 ≡ true → filter_name_in (filter_name_data n) ≡ Ok n
filter_name_in-filter_name_data n h = filter_of_text-digits (decimal n) ∙ filter_of_digits-decimal n (le-from_test n 999999999 h)
