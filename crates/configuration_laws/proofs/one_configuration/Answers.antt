use Rattle.configuration_laws.proofs.Chain.{each_has_one_configuration}
use Rattle.configuration_laws.proofs.one_configuration.Goals as goal

pub returns : goal.returns
returns c = each_has_one_configuration
