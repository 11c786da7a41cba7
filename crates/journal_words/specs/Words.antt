-- The words of a journal's lines. Numbers are decimal, hexadecimal text is in lower case, and a value
-- that is missing or empty is a dash.
use Rattle.std.specs.Prelude.{ℕ, ◌/◌, ◌%◌, ◌++◌, false, List, [], ◌∷◌, Option, Some, None, codes, decimal, flat_map, fold, if◌then◌else◌, ◌||◌}
use Rattle.std.specs.Fmt.{digit_glyph}
use Rattle.ndis_base.specs.declared.ModuleId.{ModuleId}
use Rattle.ndis_base.specs.declared.ModuleId.TheVariants.{Miniport, Filter, Binding}
use Rattle.ndis_base.specs.declared.Handlers.{Handlers}
use Rattle.journal_types.specs.declared.Target.{Target}
use Rattle.journal_types.specs.declared.Target.TheVariants.{Module, Bindings}

-- a text, and behind it a space and a word
abbrev pub word : List ℕ → List ℕ → List ℕ
word text next = (text ++ codes " ") ++ next

-- a text, and behind it words with a space before each
abbrev pub spaced : List ℕ → List (List ℕ) → List ℕ
spaced text words = fold word text words

-- a byte in two digits
abbrev pub hex : ℕ → List ℕ
hex byte = digit_glyph false (byte / 16) ∷ digit_glyph false (byte % 16) ∷ []

-- bytes in two digits each
abbrev pub hex_text : List ℕ → List ℕ
hex_text bytes = flat_map hex bytes

-- the value of an OID request
abbrev pub value_text : List ℕ → List ℕ
value_text [] = codes "-"
value_text (byte ∷ bytes) = hex_text (byte ∷ bytes)

-- the code of an OID request in eight digits
unfoldable pub code_text : ℕ → List ℕ
code_text code = hex_text (code / 16777216 ∷ code / 65536 % 256 ∷ code / 256 % 256 ∷ code % 256 ∷ [])

-- frames behind others, each after a stroke
abbrev pub more_frames_text : List (List ℕ) → List ℕ
more_frames_text frames = flat_map (λ frame. codes "/" ++ hex_text frame) frames

-- the frames of a list, with a stroke between two
abbrev pub frames_text : List (List ℕ) → List ℕ
frames_text [] = codes "-"
frames_text (frame ∷ frames) = hex_text frame ++ more_frames_text frames

abbrev pub optional_text : Option ℕ → List ℕ
optional_text None = codes "-"
optional_text (Some number) = decimal number

abbrev pub filter_text : ℕ → List ℕ
filter_text number = codes "f" ++ decimal number

abbrev pub binding_text : ℕ → List ℕ
binding_text number = codes "b" ++ decimal number

abbrev pub module_text : ModuleId → List ℕ
module_text Miniport = codes "m"
module_text (Filter number) = filter_text number
module_text (Binding number) = binding_text number

abbrev pub target_text : Target → List ℕ
target_text (Module module_id) = module_text module_id
target_text Bindings = codes "b"

-- a letter for each pair of handlers that a filter has
abbrev pub handlers_text : Handlers → List ℕ
handlers_text handlers =
    if handlers.send || handlers.receive || handlers.oid || handlers.status
    then (((if handlers.send then codes "s" else [])
    ++ (if handlers.receive then codes "r" else []))
    ++ (if handlers.oid then codes "o" else []))
    ++ (if handlers.status then codes "t" else [])
    else codes "-"
