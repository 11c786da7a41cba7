-- What a frame program makes of a frame, and of the frames of a list (IEEE 802.1Q for the tags: the
-- tag protocol identifier 0x8100 at offset 12, and behind it the tag control information, whose low
-- 12 bits are the VLAN).
use Rattle.std.specs.Prelude.{ℕ, ◌+◌, ◌*◌, ◌/◌, ◌%◌, Bool, true, false, ◌&&◌, ◌==◌, nat_lt, nat_le, List, [], ◌∷◌, ◌++◌, Option, Some, None, option_map, option_and_then, length, take, drop, slice_index, slice_set, bytes_eq, if◌then◌else◌}
use Rattle.program_types.specs.declared.Test.{Test}
use Rattle.program_types.specs.declared.Test.TheVariants as test
use Rattle.program_types.specs.declared.Action.{Action}
use Rattle.program_types.specs.declared.Action.TheVariants as action
use Rattle.program_types.specs.declared.Rule.{Rule}

-- the number of two bytes at an offset, the most significant first
abbrev pub pair_at : List ℕ → ℕ → ℕ
pair_at frame at = 256 * slice_index frame at + slice_index frame (at + 1)

-- the tag protocol identifier of IEEE 802.1Q, 0x8100
abbrev pub tag_protocol : ℕ
tag_protocol = 33024

-- the frame has a VLAN tag
abbrev pub is_tagged : List ℕ → Bool
is_tagged frame = nat_le 18 (length frame) && pair_at frame 12 == tag_protocol

-- the VLAN in the tag
abbrev pub vlan_of : List ℕ → ℕ
vlan_of frame = pair_at frame 14 % 4096

-- so many bytes from an offset on
abbrev pub part : List ℕ → ℕ → ℕ → List ℕ
part frame at many = take many (drop at frame)

abbrev pub holds : Test → List ℕ → Bool
holds test.Any frame = true
holds test.Tagged frame = is_tagged frame
holds test.Untagged frame = if is_tagged frame then false else true
holds (test.Dst address) frame = bytes_eq (part frame 0 6) address
holds (test.Src address) frame = bytes_eq (part frame 6 6) address
holds (test.EtherType n) frame = pair_at frame 12 == n
holds (test.Vlan n) frame = is_tagged frame && vlan_of frame == n
holds (test.Longer n) frame = nat_lt n (length frame)
holds (test.Byte at value) frame = nat_lt at (length frame) && slice_index frame at == value

-- the tag with this tag control information: 0x8100, and the information
abbrev pub tag : ℕ → List ℕ
tag t = 129 ∷ 0 ∷ t / 256 ∷ t % 256 ∷ []

-- the frame with a tag at offset 12
abbrev pub pushed : ℕ → List ℕ → List ℕ
pushed t frame = take 12 frame ++ (tag t ++ drop 12 frame)

-- the frame without its bytes 12 to 15
abbrev pub popped : List ℕ → List ℕ
popped frame = take 12 frame ++ drop 16 frame

-- what an action makes of a frame, which must not grow past `max` bytes
abbrev pub act : ℕ → Action → List ℕ → Option (List ℕ)
act max action.Drop frame = None
act max action.Pop frame = if is_tagged frame then Some (popped frame) else Some frame
act max (action.Push t) frame = if nat_lt max (length frame + 4) then None else Some (pushed t frame)
act max (action.SetDst address) frame = Some (address ++ drop 6 frame)
act max (action.SetSrc address) frame = Some (take 6 frame ++ (address ++ drop 12 frame))
act max (action.SetByte at value) frame = Some (if nat_lt at (length frame) then slice_set frame at value else frame)

-- what one rule makes of a frame
abbrev pub apply_rule : ℕ → Rule → List ℕ → Option (List ℕ)
apply_rule max rule frame = if holds rule.test frame then act max rule.action frame else Some frame

-- what a program makes of a frame: its rules act in order, each on the frame that the rules before it
-- left, and once there is none there stays none
abbrev pub apply : ℕ → List Rule → List ℕ → Option (List ℕ)
apply max [] frame = Some frame
apply max (rule ∷ rules) frame = option_and_then (apply max rules) (apply_rule max rule frame)

-- a value in front of the others, where there are all
abbrev pub onto : Option (List ℕ) → Option (List (List ℕ)) → Option (List (List ℕ))
onto None others = None
onto (Some frame) others = option_map (λ frames. frame ∷ frames) others

-- what a program makes of the frames of a list: none where it makes none of one of them
abbrev pub applied : ℕ → List Rule → List (List ℕ) → Option (List (List ℕ))
applied max rules [] = Some []
applied max rules (frame ∷ frames) = onto (apply max rules frame) (applied max rules frames)
