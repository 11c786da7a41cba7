-- After each sound journal everything stands in its place, while the stack isn't Halted.
use Rattle.stack_rules.specs.Net.{seen}
use Rattle.place_laws.specs.Listed.{IsListed}
use Rattle.place_laws.proofs.Turns.{lists_stand}
use Rattle.request_laws.specs.Requested.{IsRequested}
use Rattle.request_laws.proofs.Events.{requested_journal}
use Rattle.work_laws.specs.InPlace.{EachInPlace}

pub all_in_place : EachInPlace
all_in_place head turns s bound other =
    let listed : IsListed (seen head turns) = lists_stand head turns s bound other in
    let requested : IsRequested (seen head turns) = requested_journal head turns s in
    record {
      bound = listed.bound;
      ordered = listed.ordered;
      numbered = listed.numbered;
      placed = listed.placed;
      originals = listed.originals;
      statuses = listed.statuses;
      answers = requested.answers;
      apart = requested.apart;
      asked = requested.asked;
    }
