-- The values of a script's members: numbers, words, truth values, hexadecimal texts and lists.
use Rattle.std.specs.Prelude.{ℕ, ◌==◌, ◌&&◌, ℤ, Float, Bool, List, [], ◌∷◌, length, drop, slice_index, nat_lt, nat_le, bytes_eq, Option, Some, None, Result, Ok, Err, if◌then◌else◌}
use Rattle.std.specs.Int.{from_be_bytes, w32}
use Rattle.std.specs.List.{list_all}
use Rattle.std.specs.Char.{is_ascii_digit}
use Rattle.std.specs.Str.Parse.{digits_value}
use Rattle.hex.specs.Hex.{decode_of}
use Rattle.hex.specs.declared.error.FromHexError.{FromHexError}
use Rattle.serde_json.specs.Data.{Data, Num, unsigned, negative, float, Items}
use Rattle.serde_json.specs.Find.{as_array, as_bool, as_number, as_str, get}
use Rattle.json_forms.specs.Forms.{has_members}
use Rattle.json_forms.specs.Lists.{list_of, read_all}
use Rattle.script_types.specs.declared.ScriptCause.{ScriptCause}
use Rattle.script_types.specs.declared.ScriptCause.TheVariants as cause
use Rattle.script_forms.specs.Results.{◌>>=◌, or_else}

-- an object with just these members, of which the optional ones may be left out
abbrev pub members_in : List (List ℕ) → List (List ℕ) → Data → Result (Unit {0}) ScriptCause
members_in required optional d = if has_members required optional d then Ok tt else Err cause.Shape

-- the member of this name
abbrev pub need : List ℕ → Data → Result Data ScriptCause
need name d = or_else cause.Shape (get name d)

-- reads the member of this name
abbrev pub at : {A : Type 0} → List ℕ → (Data → Result A ScriptCause) → Data → Result A ScriptCause
at name read d = need name d >>= read

abbrev pub ranged : ℕ → ℕ → ℕ → Result ℕ ScriptCause
ranged low high n = if nat_le low n && nat_le n high then Ok n else Err cause.Range

abbrev pub whole_from : ℕ → ℕ → Option Num → Result ℕ ScriptCause
whole_from low high None = Err cause.Shape
whole_from low high (Some (unsigned n)) = ranged low high n
whole_from low high (Some (negative z)) = Err cause.Range
whole_from low high (Some (float x)) = Err cause.Shape

-- a whole number from low to high
abbrev pub number_in : ℕ → ℕ → Data → Result ℕ ScriptCause
number_in low high d = whole_from low high (as_number d)

abbrev pub below : ℕ → ℕ → Result ℕ ScriptCause
below count n = if nat_lt n count then Ok n else Err cause.Range

-- one of so many, counted from 0, and at most `high`
abbrev pub place_in : ℕ → ℕ → Data → Result ℕ ScriptCause
place_in high count d = do
  n ← number_in 0 high d
  below count n

abbrev pub text_in : Data → Result (List ℕ) ScriptCause
text_in d = or_else cause.Shape (as_str d)

abbrev pub truth_in : Data → Result Bool ScriptCause
truth_in d = or_else cause.Shape (as_bool d)

-- the first of these values whose name the text is
abbrev pub named : {A : Type 0} → (A → List ℕ) → List A → List ℕ → Result A ScriptCause
named name_of [] text = Err cause.Range
named name_of (a ∷ more) text = if bytes_eq text (name_of a) then Ok a else named name_of more text

abbrev pub counted : ℕ → ℕ → List Data → Result (List Data) ScriptCause
counted low high ds = if nat_le low (length ds) && nat_le (length ds) high then Ok ds else Err cause.TooMany

abbrev pub listed : ℕ → ℕ → Option Items → Result (List Data) ScriptCause
listed low high None = Err cause.Shape
listed low high (Some ds) = counted low high (list_of ds)

-- a list of low to high values
abbrev pub list_in : ℕ → ℕ → Data → Result (List Data) ScriptCause
list_in low high d = listed low high (as_array d)

abbrev pub hex_or_fault : Result (List ℕ) FromHexError → Result (List ℕ) ScriptCause
hex_or_fault (Ok bytes) = Ok bytes
hex_or_fault (Err fault) = Err cause.BadHex

-- the bytes of a text of hexadecimal digits, two for each byte
abbrev pub hex_in : Data → Result (List ℕ) ScriptCause
hex_in d = do
  text ← text_in d
  hex_or_fault (decode_of text)

-- bytes of just this number
abbrev pub sized : ℕ → List ℕ → Result (List ℕ) ScriptCause
sized count bytes = if length bytes == count then Ok bytes else Err cause.Range

-- an Ethernet address, of 12 digits
abbrev pub address_in : Data → Result (List ℕ) ScriptCause
address_in d = do
  bytes ← hex_in d
  sized 6 bytes

-- an object identifier, of 8 digits
abbrev pub code_in : Data → Result ℕ ScriptCause
code_in d = do
  bytes ← hex_in d
  four ← sized 4 bytes
  Ok (from_be_bytes w32 four)

-- the value of a request, of 0 to 16 digits
abbrev pub value_in : Data → Result (List ℕ) ScriptCause
value_in d = do
  bytes ← hex_in d
  if nat_le (length bytes) 8 then Ok bytes else Err cause.Range

-- a frame of 14 to 1,518 bytes
abbrev pub frame_in : Data → Result (List ℕ) ScriptCause
frame_in d = do
  bytes ← hex_in d
  if nat_le 14 (length bytes) && nat_le (length bytes) 1518 then Ok bytes else Err cause.FrameLength

-- 1 to 8 frames
abbrev pub frames_in : Data → Result (List (List ℕ)) ScriptCause
frames_in d = do
  ds ← list_in 1 8 d
  read_all (λ before. frame_in) [] ds

-- the number of 1 to 9 decimal digits
abbrev pub filter_of_digits : List ℕ → Result ℕ ScriptCause
filter_of_digits digits =
    if list_all is_ascii_digit digits && (nat_lt 0 (length digits) && nat_le (length digits) 9) then Ok (digits_value 10 digits) else Err cause.Range

-- the number of a filter: the letter f, which is 102, and its digits
abbrev pub filter_of_text : List ℕ → Result ℕ ScriptCause
filter_of_text text =
    if nat_lt 0 (length text) && (slice_index text 0 == 102) then filter_of_digits (drop 1 text) else Err cause.Range

abbrev pub filter_name_in : Data → Result ℕ ScriptCause
filter_name_in d = do
  text ← text_in d
  filter_of_text text
