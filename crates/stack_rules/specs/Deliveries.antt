-- Delivery to the bindings (WDK, "Receiving Data in a Protocol Driver"): each binding whose packet filter
-- takes the list's first frame gets it, in rising order; it is lent to all but the last one (WDK,
-- "OID_GEN_CURRENT_PACKET_FILTER").
use Rattle.std.specs.Prelude.{ℕ, ◌+◌, ◌==◌, ◌&&◌, ◌||◌, not, Bool, List, [], ◌∷◌, ◌++◌, Option, Some, None, if◌then◌else◌, bit_and, slice_index, slice_index_or, filter, take, replicate}
use Rattle.std.specs.Str.{bytes_eq}
use Rattle.ndis_base.specs.declared.ModuleId.TheVariants.{Binding}
use Rattle.ndis_base.specs.declared.Direction.TheVariants as direction
use Rattle.ndis_base.specs.declared.ListNo.{ListNo}
use Rattle.ndis_base.specs.declared.ListStatus.TheVariants.{Success}
use Rattle.journal_types.specs.declared.How.{How}
use Rattle.journal_types.specs.declared.How.TheVariants as how
use Rattle.journal_types.specs.declared.Row.{Row}
use Rattle.journal_types.specs.declared.Row.TheVariants as row
use Rattle.stack_rules.specs.declared.LiveList.{LiveList}
use Rattle.stack_rules.specs.Tests.{phase_is_running, is_echo, is_retain}
use Rattle.stack_rules.specs.Heads.{kind_of_binding, binding_numbers}
use Rattle.stack_rules.specs.Net.{Net}
use Rattle.stack_rules.specs.Places.{is_full}
use Rattle.stack_rules.specs.Targets.{onward, homeward}
use Rattle.stack_rules.specs.Outcome.{root, list_no}

-- the address ff:ff:ff:ff:ff:ff
abbrev pub is_broadcast : List ℕ → Bool
is_broadcast frame = bytes_eq (take 6 frame) (replicate 6 255)

-- the bit of a group address, the lowest of the first byte (IEEE 802)
abbrev pub group_bit : ℕ
group_bit = 1

-- a group address that isn't the broadcast address
abbrev pub is_multicast : List ℕ → Bool
is_multicast frame = bit_and (slice_index frame 0) group_bit == group_bit && not (is_broadcast frame)

-- a packet filter takes a frame: directed (bit 0x1), multicast (0x4), broadcast (0x8), all (0x20)
abbrev pub is_taken_by : ℕ → List ℕ → List ℕ → Bool
is_taken_by value address frame =
    (bit_and value 1 == 1 && bytes_eq (take 6 frame) address)
    || ((bit_and value 4 == 4 && is_multicast frame) || ((bit_and value 8 == 8 && is_broadcast frame) || bit_and value 32 == 32))

-- the bindings that take a list, in rising order
abbrev pub takers : Net → List (List ℕ) → List ℕ
takers net frames =
    filter (λ b. is_taken_by (slice_index net.port.delivers_by b) net.head.port.address (slice_index_or frames 0 [])) (binding_numbers net.head)

-- an echo protocol sends what is delivered to it, only while the stack runs and its pool isn't full
abbrev pub echoes : Net → ℕ → Bool
echoes net b = is_echo (kind_of_binding net.head b) && (phase_is_running net.phase && not (is_full net (Binding b)))

abbrev pub echoed : Net → ℕ → ℕ → List (List ℕ) → List Row
echoed net n b frames = root net n (Binding b) direction.Down None frames ∷ onward net.modules (list_no n) direction.Down 0 ∷ []

-- the delivery rows, n being the number of the next list: own is how the last one gets it
abbrev pub how_for : How → List ℕ → How
how_for own [] = own
how_for own (b ∷ bs) = how.Lent

abbrev pub delivered : Net → ListNo → List (List ℕ) → How → ℕ → List ℕ → List Row
delivered net list frames own n [] = []
delivered net list frames own n (b ∷ bs) =
    row.Deliver list b (how_for own bs) frames
    ∷ (if echoes net b
    then echoed net n b frames ++ delivered net list frames own (n + 1) bs
    else delivered net list frames own n bs)

-- the last binding that takes the list
abbrev pub last_of : List ℕ → Option ℕ
last_of [] = None
last_of (b ∷ []) = Some b
last_of (b ∷ c ∷ bs) = last_of (c ∷ bs)

-- the last one keeps it, which only a retain protocol may choose, or returns it at once; where none takes
-- it, it goes back at once
abbrev pub settled : Net → LiveList → Bool → Option ℕ → List Row
settled net l keeps None = homeward net.modules l 0 Success ∷ []
settled net l keeps (Some b) =
    if keeps && is_retain (kind_of_binding net.head b) then row.Keep l.list (Binding b) ∷ [] else homeward net.modules l 0 Success ∷ []

-- an owned list is delivered
abbrev pub delivery_rows : Net → LiveList → Bool → List Row
delivery_rows net l keeps =
    delivered net l.list l.frames how.Own net.next.list (takers net l.frames) ++ settled net l keeps (last_of (takers net l.frames))
