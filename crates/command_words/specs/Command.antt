-- The command as clap reads it.
use Rattle.std.specs.Prelude.{ℕ, true, List, [], Option, Some, None, codes}
use Rattle.clap.specs.Walk.{Row, Rule, Text, first_of}
use Rattle.clap.specs.Simple.{App, new_app, new_rule, on_top, with_rule, with_subcommand}
use Rattle.command_words.specs.Words.{lanes_in}

-- the option `--order`, with one value
abbrev pub order_option : Rule
order_option = record (new_rule (codes "order")) { long = Some (codes "order") }

-- the subcommand `replay`, with that option alone
abbrev pub replay : App
replay = with_rule (new_app (codes "replay")) order_option

-- the settings of the command, which wants a subcommand and offers no help
abbrev pub settings : App
settings = on_top (λ s. record s {
  no_binary_name = true;
  disable_help_flag = true;
  disable_help_subcommand = true;
  subcommand_required = true;
}) (new_app (codes "ndis"))

abbrev pub command : App
command = with_subcommand settings replay.top

-- the order that the option's value is; without the option it is empty
abbrev pub asked : Option Text → Option (List ℕ)
asked None = Some []
asked (Some lanes) = lanes_in lanes

-- the order that the matches ask for
abbrev pub order_asked : Option (Text × List Row) → Option (List ℕ)
order_asked None = None
order_asked (Some p) = asked (first_of (codes "order") p.1)
