use Rattle.attached_laws.proofs.Drivers.{each_has_one_driver}
use Rattle.attached_laws.proofs.filters_have_one_driver.Goals as goal

pub returns : goal.returns
returns c = each_has_one_driver
