-- The shelf and the seats after a turn are those that are promised, where they were before it.
use Rattle.std.proofs.Common.{◌≡◌, ℕ, zero, suc, ◌<◌, ◌==◌, Bool, true, false, cond, List, [], ◌∷◌, ◌++◌, Some, None, option_map, unwrap_or, find, length, map, slice_get, slice_set, refl, sym, ap, ◌∙◌, All, eq-eqb, arith}
use Rattle.std.proofs.Math.Seq.{map-set_same}
use Rattle.std.proofs.lemmas.List.Elements.{All-head, All-tail}
use Rattle.std.proofs.lemmas.Option.{slice_get-map}
use Rattle.ndis_base.specs.declared.FilterKind.{FilterKind}
use Rattle.ndis_base.specs.declared.Who.{Who}
use Rattle.journal_types.specs.declared.Event.{Event}
use Rattle.journal_types.specs.declared.Reply.{Reply}
use Rattle.journal_types.specs.declared.Turn.{Turn}
use Rattle.stack_rules.specs.declared.Attached.{Attached}
use Rattle.stack_rules.specs.Net.{Net, attached}
use Rattle.promise_rules.specs.Drivers.{Shelf, same_filter_kind, is_of_kind, shelf_told, shelf_in_rows, shelf_in_turns, shelf_of, driver_of}
use Rattle.driver_views.specs.States.{FilterState}
use Rattle.driver_tray.specs.Tray.{turn_of}
use Rattle.book_lemmas.specs.Stands.{IsShelved}
use Rattle.book_lemmas.specs.Views.{BookView, HeldView, no_filter, filter_at, seat_of}
use Rattle.rewire_work.specs.Seated.{is_kind_at}
use Rattle.book_lemmas.specs.Shelves.{FollowsShelf}

-- the kinds of the drivers, by place
abbrev pub kinds_of : HeldView → List FilterKind
kinds_of held = map (λ s. s.kind) held.filters

shelf_snoc : (kinds : List FilterKind) (turns : List Turn) (t : Turn) (shelf : Shelf)
    → shelf_in_turns kinds (turns ++ t ∷ []) shelf ≡ shelf_in_rows t.rows (shelf_told kinds t.event t.reply (shelf_in_turns kinds turns shelf))
shelf_snoc kinds [] t shelf = refl
shelf_snoc kinds (x ∷ turns) t shelf = shelf_snoc kinds turns t (shelf_in_rows x.rows (shelf_told kinds x.event x.reply shelf))

pub shelf_then : (kinds : List FilterKind) (turns : List Turn) (t : Turn) → shelf_of kinds (turns ++ t ∷ []) ≡ shelf_in_rows t.rows (shelf_told kinds t.event t.reply (shelf_of kinds turns))
shelf_then kinds turns t = shelf_snoc kinds turns t _

-- a driver that takes a state keeps its kind
pub kinds_same : (filters : List FilterState) (place : ℕ) (s : FilterState) → s.kind ≡ (filter_at filters (Some place)).kind → map (λ (x : FilterState). x.kind) (slice_set filters place s) ≡ map (λ (x : FilterState). x.kind) filters
kinds_same filters place s same = map-set_same (λ (x : FilterState). x.kind) filters place s no_filter same

kind_read : (kind : FilterKind) (filters : List FilterState) (place : ℕ) → place < length filters
    → unwrap_or (option_map (λ k. same_filter_kind k kind) (option_map (λ (x : FilterState). x.kind) (slice_get filters place))) false ≡ is_kind_at kind filters place
kind_read kind [] place within = absurd (no_less place within)
  where
    no_less : (n : ℕ) → n < 0 → ⊥
    no_less n h = omega (arith, h)
kind_read kind (x ∷ filters) zero within = refl
kind_read kind (x ∷ filters) (suc place) within = kind_read kind filters place (omega (arith, within))

-- the driver that the shelf gives is the one that was found
pub find_same : (kind : FilterKind) (filters : List FilterState) (shelf : List ℕ) → All (λ place. place < length filters) shelf
    → find (is_of_kind kind (map (λ (x : FilterState). x.kind) filters)) shelf ≡ find (is_kind_at kind filters) shelf
find_same kind filters [] h = refl
find_same kind filters (p ∷ ps) h =
    let same : is_of_kind kind (map (λ (x : FilterState). x.kind) filters) p ≡ is_kind_at kind filters p =
    ap (λ o. unwrap_or (option_map (λ k. same_filter_kind k kind) o) false) (slice_get-map (λ (x : FilterState). x.kind) filters p) ∙ kind_read kind filters p (All-head (λ place. place < length filters) p ps h) in
    ap (λ b. cond b (Some p) (find (is_of_kind kind (map (λ (x : FilterState). x.kind) filters)) ps)) same
    ∙ ap (λ o. cond (is_kind_at kind filters p) (Some p) o) (find_same kind filters ps (All-tail (λ place. place < length filters) p ps h))

-- the drivers with one more
pub driver_new : (drivers : List (ℕ × ℕ)) (f place : ℕ) → driver_of drivers f ≡ None → driver_of (drivers ++ (f, place) ∷ []) f ≡ Some place
driver_new [] f place none = ap (λ b. option_map (λ (d : ℕ × ℕ). d.1) (cond b (Some (f, place)) None)) (eq-eqb f f refl)
driver_new (d ∷ ds) f place none = cases (d.0 == f) none (driver_new ds f place)
  where
    cases : (b : Bool) → option_map (λ (e : ℕ × ℕ). e.1) (cond b (Some d) (find (λ e. e.0 == f) ds)) ≡ None → (driver_of ds f ≡ None → driver_of (ds ++ (f, place) ∷ []) f ≡ Some place)
        → option_map (λ (e : ℕ × ℕ). e.1) (cond b (Some d) (find (λ e. e.0 == f) (ds ++ (f, place) ∷ []))) ≡ Some place
    cases true e rest = cc
    cases false e rest = rest e

pub driver_old : (drivers : List (ℕ × ℕ)) (f place g : ℕ) → (f == g) ≡ false → driver_of (drivers ++ (f, place) ∷ []) g ≡ driver_of drivers g
driver_old [] f place g other = ap (λ b. option_map (λ (d : ℕ × ℕ). d.1) (cond b (Some (f, place)) None)) other
driver_old (d ∷ ds) f place g other = cases (d.0 == g) (driver_old ds f place g other)
  where
    cases : (b : Bool) → driver_of (ds ++ (f, place) ∷ []) g ≡ driver_of ds g → option_map (λ (e : ℕ × ℕ). e.1) (cond b (Some d) (find (λ e. e.0 == g) (ds ++ (f, place) ∷ []))) ≡ option_map (λ (e : ℕ × ℕ). e.1) (cond b (Some d) (find (λ e. e.0 == g) ds))
    cases true rest = refl
    cases false rest = rest

-- an event that tells nothing of filters and writes no row leaves the shelf
pub follows_still : (old new : BookView) (e : Event) (answer : Reply) → new.tray.rows ≡ [] → new.tray.turns ≡ old.tray.turns → new.tray.net ≡ old.tray.net → new.held.shelf ≡ old.held.shelf → new.held.seats ≡ old.held.seats
    → kinds_of new.held ≡ kinds_of old.held → ((kinds : List FilterKind) (shelf : Shelf) → shelf_told kinds e answer shelf ≡ shelf) → FollowsShelf old new e answer
follows_still old new e answer rows turns net shelf seats kinds still = record { shelved = λ who was. record { shelf = shelf ∙ was.shelf ∙ ap (λ (s : Shelf). s.places) (sym (same who)); seats = λ f a there. seats_are who was f a there } }
  where
    same : (who : Who) → shelf_of (kinds_of new.held) (new.tray.turns ++ turn_of new.tray who e answer ∷ []) ≡ shelf_of (kinds_of old.held) old.tray.turns
    same who =
        shelf_then (kinds_of new.held) new.tray.turns (turn_of new.tray who e answer)
        ∙ ap (λ rs. shelf_in_rows rs (shelf_told (kinds_of new.held) e answer (shelf_of (kinds_of new.held) new.tray.turns))) rows
        ∙ still (kinds_of new.held) (shelf_of (kinds_of new.held) new.tray.turns)
        ∙ ap (λ ks. shelf_of ks new.tray.turns) kinds
        ∙ ap (shelf_of (kinds_of old.held)) turns

    seats_are : (who : Who) → IsShelved old.tray.net old.tray.turns old.held → (f : ℕ) (a : Attached) → attached f new.tray.net.modules.filters ≡ Some a
        → seat_of new.held.seats f ≡ driver_of (shelf_of (kinds_of new.held) (new.tray.turns ++ turn_of new.tray who e answer ∷ [])).drivers f
    seats_are who was f a there =
        ap (λ ss. seat_of ss f) seats
        ∙ was.seats f a (ap (λ (n : Net). attached f n.modules.filters) (sym net) ∙ there)
        ∙ ap (λ (s : Shelf). driver_of s.drivers f) (sym (same who))
