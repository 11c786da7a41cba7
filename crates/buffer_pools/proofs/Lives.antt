-- What stays true of a pool's other lists.
use Rattle.std.proofs.Common.{◌≡◌, ◌≢◌, Some, None, Option, sym, ◌∙◌, ap}
use Rattle.buffer_pools.specs.Views.{PoolView, ListView, Live, live_at, IsOf, Issues, Frees}

-- a new list has a slot that no live list has
pub issued_apart : (old after : PoolView) (l other : ListView) → Issues old l after → IsOf old other → other.slot ≢ l.slot
issued_apart old after l other issues is same =
    let here : live_at old other.slot ≡ None = ap (live_at old) same ∙ issues.vacant in
    let listed : Live = record { label = other.label; frames = other.frames } in
    let none : Option Live = None in
    let there : Some listed ≡ none = sym is.live ∙ here in
    cc

-- the lists of a pool stay so when another is issued
pub is_of-issued : (old after : PoolView) (l other : ListView) → Issues old l after → IsOf old other → IsOf after other
is_of-issued old after l other issues is =
    record {
      live = issues.others other.slot (issued_apart old after l other issues is) ∙ is.live;
      bytes = is.bytes ∙ sym issues.bytes;
    }

-- the lists of a pool stay so when one in another slot is freed
pub is_of-freed : (old after : PoolView) (l other : ListView) → Frees old l after → other.slot ≢ l.slot → IsOf old other → IsOf after other
is_of-freed old after l other frees apart is =
    record {
      live = frees.others other.slot apart ∙ is.live;
      bytes = is.bytes ∙ sym frees.bytes;
    }
