use Rattle.std.proofs.Common.{refl, ap, ◌∙◌}
use Rattle.ndis_base.specs.declared.FilterKind.TheVariants.{Hold}
use Rattle.ndis_base.specs.declared.ListNo.{ListNo}
use Rattle.driver_tray.specs.Tray.{noted}
use Rattle.kept_lists.specs.Kept.{KeptView}
use Rattle.frame_filters.specs.Filters.{filter_of}
use Rattle.frame_filters.proofs.Passing.{holds_all}
use Rattle.frame_filters.proofs.hold.HoldFilterFilterDriver.send.Goals as goal

pub returns : goal.returns
returns c =
    let s = c.args.self.now in
    record {
      same = refl;
      by = λ p is. holds_all (filter_of Hold s.setup s.kept.lists s.served s.refusals) p c.args.list c.args.tray.now c.push.new.self.lists c.keep_note.new.self refl (s.empty p is)
          (ap (λ (k : KeptView). k.lists) c.push.ensures) (c.keep_note.ensures ∙ ap (λ (n : ListNo). noted c.args.tray.now n) c.number.ensures);
    }
