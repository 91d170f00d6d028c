-- The question of completeness, by the file: 1 to 6, then 18 (01, "Lines of a file"). Assumes nothing.
use Rattle.std.specs.Prelude.{ℕ, List}
use Rattle.fault.specs.Answer.{Answer, ◌>>=◌}
use Rattle.rows.specs.Rows.{read_rows}
use Rattle.wellformed.specs.Check.{check}
use Rattle.complete.specs.Complete.{complete_rows}

-- well formed, and then complete
unfoldable pub complete : List ℕ → Answer (Unit {0})
complete file = do
  _ ← check file
  complete_rows (read_rows file)
