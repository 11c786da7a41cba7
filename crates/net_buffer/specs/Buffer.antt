use Rattle.std.specs.Prelude.{ℕ, ◌≡◌, ◌+◌, List, ◌++◌, length, take, drop}

-- what a buffer shows: all bytes of its block, where its data begin, and how many bytes they have
pub record Block : Type 0 where
  pub bytes : List ℕ
  pub offset : ℕ
  pub len : ℕ

-- the data of a buffer
abbrev pub data_of : Block → List ℕ
data_of b = take b.len (drop b.offset b.bytes)

-- the bytes with a frame written over them at an offset
abbrev pub written : List ℕ → ℕ → List ℕ → List ℕ
written bytes offset frame = take offset bytes ++ frame ++ drop (offset + length frame) bytes

-- the block holds this frame at this place, as its data, and each other byte as before
pub record Places (old : Block) (place : ℕ) (frame : List ℕ) (after : Block) : Type 0 where
  pub bytes : after.bytes ≡ written old.bytes place frame
  pub size : length after.bytes ≡ length old.bytes
  pub offset : after.offset ≡ place
  pub len : after.len ≡ length frame
  pub holds : data_of after ≡ frame
