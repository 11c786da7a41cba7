-- What a call of an adapter does, from what happens to its ring and its log.
use Rattle.std.proofs.Common.{◌≡◌, Bool, false, ◌&&◌, List, [], ◌∷◌, ◌++◌, Option, Some, None, length, ap, sym, ◌∙◌, arith, subst}
use Rattle.std.proofs.lemmas.List.{length-append}
use Rattle.ndis_base.specs.declared.ListNo.{ListNo}
use Rattle.journal_types.specs.declared.PortSetup.{PortSetup}
use Rattle.buffer_pools.specs.Views.{ListView}
use Rattle.stack_rules.specs.Tests.{is_loop, is_virtual}
use Rattle.driver_views.specs.States.{MiniportState, logs}
use Rattle.ndis_base.specs.declared.ListStatus.TheVariants.{Success}
use Rattle.driver_tray.specs.Tray.{TrayView, wired, passed_back}
use Rattle.kept_lists.specs.Kept.{KeptView}
use Rattle.driver_calls.specs.Miniports.{Queues, Transmits}
use Rattle.driver_calls.specs.Miniports.Queues.{keeps, fills}
use Rattle.driver_calls.specs.Miniports.Transmits.{idles, wires, loops}
use Rattle.ring_adapters.specs.Rings.{IsRing, Enqueues, Indicates, Crosses}
use Rattle.ring_adapters.specs.Rings.Enqueues.{keeps as goes_in, fills as goes_back}
use Rattle.ring_adapters.specs.Rings.Indicates.{quiet, starts}

-- a send
pub queues_of : (s : MiniportState) (p : PortSetup) (ring ring' : KeptView) (l : ListView) (t t' : TrayView) (kept' : List ListView) → s.kept ≡ ring.lists → IsRing ring p → Enqueues ring l t ring' t' → kept' ≡ ring'.lists
    → Queues s p l t kept' t'
queues_of s p ring ring' l t t' kept' same whole (goes_in room now tray) after =
    let apart : length s.kept ≡ p.ring → ⊥ = λ (full : length s.kept ≡ p.ring). omega (arith, ap length same, whole, full, room) in
    keeps apart (after ∙ ap (λ (k : KeptView). k.lists) now ∙ ap (λ (ls : List ListView). ls ++ l ∷ []) (sym same)) tray
queues_of s p ring ring' l t t' kept' same whole (goes_back room now tray) after =
    fills (omega (arith, ap length same, whole, room)) (after ∙ ap (λ (k : KeptView). k.lists) now ∙ sym same) tray

-- the ring stays as large as it is
pub ring_stays : (p : PortSetup) (ring ring' : KeptView) (l : ListView) (t t' : TrayView) → IsRing ring p → Enqueues ring l t ring' t' → IsRing ring' p
ring_stays p ring ring' l t t' whole (goes_in room now tray) = subst (λ (k : KeptView). IsRing k p) (sym now) (omega (arith, length-append ring.lists (l ∷ []), whole, room))
ring_stays p ring ring' l t t' whole (goes_back room now tray) = subst (λ (k : KeptView). IsRing k p) (sym now) whole

-- a transmission
pub transmits_of : (s s' : MiniportState) (running loops_it : Bool) (l : ListView) (rest kept : List ListView) (t t' : TrayView) (result : Option ListNo) → (is_loop s.kind && running) ≡ loops_it → is_virtual s.kind ≡ false → s.kept ≡ l ∷ rest → s.kept ≡ kept
    → result ≡ Some l.label.number → s' ≡ record s { kept = rest; did = logs l.frames s.did } → Crosses loops_it l t t' → Transmits s running kept t result s' t'
transmits_of s s' running loops_it l rest kept t t' result loop real has is answer now crosses =
    by_way s s' running loops_it l rest kept t t' result loop real (sym is ∙ has) answer now crosses.begun crosses.indicates crosses.back
  where
    by_way : (s s' : MiniportState) (running loops_it : Bool) (l : ListView) (rest kept : List ListView) (t t' : TrayView) (result : Option ListNo) → (is_loop s.kind && running) ≡ loops_it → is_virtual s.kind ≡ false → kept ≡ l ∷ rest
        → result ≡ Some l.label.number → s' ≡ record s { kept = rest; did = logs l.frames s.did } → (begun : TrayView) → Indicates loops_it l (wired t l) begun → t' ≡ passed_back begun l Success → Transmits s running kept t result s' t'
    by_way s s' running loops_it l rest kept t t' result loop real is answer now begun (quiet no_loop same) back =
        wires l rest real is answer now (λ looping. no_loop (sym loop ∙ looping.0, looping.1)) (back ∙ ap (λ (b : TrayView). passed_back b l Success) same)
    by_way s s' running loops_it l rest kept t t' result loop real is answer now begun (starts can made) back =
        loops l rest begun real is answer now (loop ∙ can.0, can.1) made back

pub idles_of : (s s' : MiniportState) (running : Bool) (kept : List ListView) (t t' : TrayView) (result : Option ListNo) → s.kept ≡ [] → s.kept ≡ kept → result ≡ None → s' ≡ s → t' ≡ t → Transmits s running kept t result s' t'
idles_of s s' running kept t t' result none is answer same still = idles (sym is ∙ none) answer same still
