-- The rows of pumps fit.
use Rattle.std.proofs.Common.{◌≡◌, Bool, Option, Some, None, refl}
use Rattle.journal_types.specs.declared.PassWay.TheVariants as way
use Rattle.journal_types.specs.declared.Target.TheVariants.{Module}
use Rattle.stack_rules.specs.declared.LiveList.{LiveList}
use Rattle.stack_rules.specs.declared.Stand.{Stand}
use Rattle.stack_rules.specs.declared.Stand.TheVariants as stand
use Rattle.stack_rules.specs.declared.Thing.{Thing}
use Rattle.stack_rules.specs.declared.Thing.TheVariants as thing
use Rattle.stack_rules.specs.Net.{Net}
use Rattle.stack_rules.specs.Places.{agenda_first, is_away}
use Rattle.stack_rules.specs.Requests.{Giving, giving_rows, next_giving}
use Rattle.stack_rules.specs.Pumps.{moved_rows, thing_rows, request_pump, pump_of, pump_outcome}
use Rattle.home_laws.proofs.Fits.{Register, AllFit, IsSane}
use Rattle.home_laws.proofs.Agreed.{Agrees}
use Rattle.home_laws.proofs.Known.{Knows, knows_all, OfThing, thing_found}
use Rattle.home_laws.proofs.Quiet.{quiet_fit, giving_quiet, status_rows_quiet}
use Rattle.home_laws.proofs.Issues.{FitOutcome}
use Rattle.home_laws.proofs.Sends.{down_fits}
use Rattle.home_laws.proofs.Receives.{up_fits}
use Rattle.home_laws.proofs.Dones.{homeward_rows_fit}

moved_fits : (net : Net) (reg : Register) (l : LiveList) (to : Stand) (keeps : Bool) → Agrees net reg → IsSane reg → Knows reg l → AllFit reg (moved_rows net l to keeps)
moved_fits net reg l (stand.Passed way.Down (Module m)) keeps h s k = down_fits net reg l m keeps h s k
moved_fits net reg l (stand.Passed way.Up to) keeps h s k = up_fits net reg l to keeps h s k
moved_fits net reg l (stand.Passed (way.Done status) (Module m)) keeps h s k = homeward_rows_fit net reg l m status h s k
moved_fits net reg l (stand.Passed (way.Back status) (Module m)) keeps h s k = homeward_rows_fit net reg l m status h s k
moved_fits net reg l _ keeps h s k = tt

thing_fits : (net : Net) (reg : Register) (t : Thing) (keeps : Bool) → Agrees net reg → IsSane reg → OfThing (Knows reg) t → AllFit reg (thing_rows net t keeps)
thing_fits net reg (thing.List l) keeps h s k = moved_fits net reg l l.stand keeps h s k
thing_fits net reg (thing.Status a) keeps h s k = quiet_fit reg _ (status_rows_quiet net a.number a.name a.to)
thing_fits net reg (thing.Answer a) keeps h s k = (tt, tt)

request_fits : (net : Net) (reg : Register) (o : Option Giving) → FitOutcome reg (request_pump net o)
request_fits net reg None = tt
request_fits net reg (Some g) = quiet_fit reg (giving_rows net g) (giving_quiet net g)

pump_of_fits : (net : Net) (reg : Register) (keeps : Bool) (o : Option Thing) → Agrees net reg → IsSane reg → ((t : Thing) → o ≡ Some t → OfThing (Knows reg) t) → FitOutcome reg (pump_of net keeps o)
pump_of_fits net reg keeps None h s k = request_fits net reg (next_giving net)
pump_of_fits net reg keeps (Some t) h s k = thing_fits net reg t keeps h s (k t refl)

pub pump_fits : (net : Net) (reg : Register) (keeps : Bool) → Agrees net reg → IsSane reg → FitOutcome reg (pump_outcome net keeps)
pump_fits net reg keeps h s = pump_of_fits net reg keeps (agenda_first net) h s (λ t e. thing_found (Knows reg) is_away net.things t (knows_all net reg h) e)
