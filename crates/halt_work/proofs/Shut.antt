-- What is held once the drivers are shut down, by its parts.
use Rattle.std.proofs.Common.{◌≡◌, ℕ, List, ◌++◌, map, take, drop, ap, ◌∙◌}
use Rattle.driver_views.specs.States.{MiniportState, ProtocolState}
use Rattle.driver_tray.specs.Tray.{TrayView}
use Rattle.book_lemmas.specs.Views.{BookView, HeldView}
use Rattle.phase_work.specs.Written.{each_written}
use Rattle.setup_work.specs.SetUp.{closed}
use Rattle.halt_work.specs.Halted.{unported, halted_rows, Halts}
use Rattle.halt_work.specs.Risen.{Sides, sides_of, with_sides, risen_each}

abbrev pub shut_to : HeldView → MiniportState → List ProtocolState → Sides → HeldView
shut_to held m ps s = record (with_sides held s) { miniport = m; protocols = ps }

pub all_shut : (old : BookView) (n : ℕ) (t : TrayView) (order : List ℕ) (m : MiniportState) (ps : List ProtocolState) (s : Sides)
    → t ≡ each_written old.tray (halted_rows n old.tray.net.modules.order) → order ≡ old.tray.net.modules.order → m ≡ unported old.held.miniport
    → ps ≡ take 0 old.held.protocols ++ map closed (drop 0 old.held.protocols) → s ≡ risen_each (sides_of old.held) order
    → Halts n old (record { tray = t; held = shut_to old.held m ps s })
all_shut old n t order m ps s written order_is m_is ps_is s_is = record {
  tray = written;
  held = ap (λ x. shut_to old.held x ps s) m_is
      ∙ ap (λ x. shut_to old.held (unported old.held.miniport) x s) ps_is
      ∙ ap (λ x. shut_to old.held (unported old.held.miniport) (map closed old.held.protocols) x) (s_is ∙ ap (risen_each (sides_of old.held)) order_is);
}
