use Rattle.std.proofs.Common.{length}
use Rattle.plain_followed.proofs.own.+note_rows.Given as goal

abbrev pub decreases-note_rows : goal.decreases-note_rows
decreases-note_rows l = length l.rows.now
