use Rattle.std.proofs.Common.{Some, refl, sym, ap}
use Rattle.ndis_base.specs.declared.ListNo.{ListNo}
use Rattle.driver_log.specs.Log.{LogView}
use Rattle.kept_lists.specs.Kept.{TakesFirst}
use Rattle.ring_adapters.specs.Rings.{adapter_of}
use Rattle.ring_adapters.specs.States.{core_state}
use Rattle.ring_adapters.proofs.Calls.{transmits_of}
use Rattle.ring_adapters.proofs.parts.Core.transmit.Goals as goal

pub returns-in-Some : goal.returns-in-Some
returns-in-Some c =
    let s = c.args.self.now in
    let first : TakesFirst s.ring c.in-Some.list c.take_first.new.self = c.in-Some.ensures.some c.in-Some.list refl in
    record {
      by = λ kept is. transmits_of (core_state s) _ c.args.running c.loops-loops.result c.in-Some.list c.take_first.new.self.lists kept c.args.tray.now c.cross.new.tray _
          (sym c.loops-loops.ensures) s.real first.lists is (ap (λ (n : ListNo). Some n) c.number-number.ensures)
          (ap (λ (g : LogView). adapter_of s.kind s.port c.take_first.new.self s.served g s.refusals) c.cross.ensures.log) c.cross.ensures.crosses;
    }
