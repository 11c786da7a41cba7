-- What rows and events refer to: all frames in order, the filters of all configurations, and the set-ups
-- of filters.
use Rattle.std.specs.Prelude.{ℕ, List, [], false, take, drop, get_or}
use Rattle.journal_types.specs.declared.Setup.{Setup}
use Rattle.flat_journal.specs.declared.types.FilterSpan.{FilterSpan}
use Rattle.flat_journal.specs.declared.types.SetupNo.{SetupNo}
use Rattle.flat_journal.specs.declared.types.ValueNo.{ValueNo}

pub record Payloads : Type 0 where
  pub frames : List (List ℕ)
  pub filters : List ℕ
  pub setups : List Setup

-- the filters of a configuration
abbrev pub filters_at : List ℕ → FilterSpan → List ℕ
filters_at filters span = take span.count (drop span.first filters)

-- the value of an OID request
abbrev pub value_at : List (List ℕ) → ValueNo → List ℕ
value_at frames value = get_or frames value.0 []

-- stands for a set-up that is not there
abbrev pub no_setup : Setup
no_setup = record {
  handlers = record { send = false; receive = false; oid = false; status = false };
  pool = 0;
  send = [];
  receive = [];
}

abbrev pub setup_at : List Setup → SetupNo → Setup
setup_at setups setup = get_or setups setup.0 no_setup
