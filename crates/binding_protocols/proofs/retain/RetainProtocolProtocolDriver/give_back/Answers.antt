use Rattle.std.proofs.Common.{Some, None, refl}
use Rattle.ndis_base.specs.declared.ProtocolKind.TheVariants.{Retain}
use Rattle.binding_protocols.proofs.Given.{gives_lacking, gives_one}
use Rattle.binding_protocols.proofs.retain.RetainProtocolProtocolDriver.give_back.Goals as goal

pub returns-in-Some : goal.returns-in-Some
returns-in-Some c =
    let s = c.args.self.now in
    record {
      by = λ kept is. gives_one Retain s.is_open s.served s.log s.kept c.take.new.self c.args.list.0 kept c.args.tray.now c.pass_back.new.self (Some c.in-Some.kept) c.in-Some.kept refl c.in-Some.ensures is c.pass_back.ensures;
    }

pub returns-in-None : goal.returns-in-None
returns-in-None c =
    let s = c.args.self.now in
    record {
      by = λ kept is. gives_lacking Retain s.is_open s.served s.log s.kept c.take.new.self c.args.list.0 kept c.args.tray.now c.args.tray.now None refl c.in-None.ensures is refl;
    }
