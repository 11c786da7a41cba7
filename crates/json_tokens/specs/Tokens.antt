-- What stands first in a text's tokens, and which tokens follow it.
use Rattle.std.specs.Prelude.{◌≡◌, ◌<◌, ◌≤◌, ℕ, List, length, Some}
use Rattle.json.specs.Token.{Token}
use Rattle.json.specs.Json.{read_key, items, members, value}
use Rattle.serde_json.specs.Data.{Data, Members}
use Rattle.serde_json.specs.Read.{of_json, of_items, of_members, converted}
use Rattle.serde_json.specs.View.{items_of}

-- a value, with arrays and objects nested no deeper than the number
pub record IsValueAt (depth : ℕ) (ts : List Token) (d : Data) (rest : List Token) : Type 0 where
  pub is : converted of_json (value depth ts) ≡ Some (d, rest)
  pub shorter : length rest < length ts

-- a member of an object: its name, and its value
pub record IsMemberAt (depth : ℕ) (ts : List Token) (name : List ℕ) (d : Data) (rest : List Token) : Type 0 where
  pub after_name : List Token
  pub named : read_key ts ≡ Some (Some name, after_name)
  pub holds : IsValueAt depth after_name d rest

-- the items of an array up to its end
pub record AreItemsAt (depth : ℕ) (ts : List Token) (ds : List Data) (rest : List Token) : Type 0 where
  pub are : (turns : ℕ) → length ts ≤ turns → converted of_items (items (value depth) turns ts) ≡ Some (items_of ds, rest)
  pub shorter : length rest < length ts

-- the members of an object up to its end, which with those found before are all of them
pub record AreMembersAt (depth : ℕ) (found : Members) (ts : List Token) (all : Members) (rest : List Token) : Type 0 where
  pub are : (turns : ℕ) → length ts ≤ turns → converted (λ ms. of_members ms found) (members (value depth) turns ts) ≡ Some (all, rest)
  pub shorter : length rest < length ts
