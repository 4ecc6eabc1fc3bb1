-- What `check` tells.
use Rattle.std.specs.{Prelude.{ℕ, List, [], ◌++◌, codes, if◌then◌else◌}, Fmt.decimal}
use Rattle.table_text.specs.TableText.{table_text}
use Rattle.trace_text.specs.{TraceForms.is_version_2, declared.checking.Checked.Checked}

-- `migrated N left out` where the trace is of version 1
abbrev pub migrated_line : Checked → List ℕ
migrated_line c = if is_version_2 c.version then [] else codes "migrated " ++ decimal c.left_out ++ codes " left out\n"

-- `run of E events`
abbrev pub run_line : Checked → List ℕ
run_line c = codes "run of " ++ decimal c.events ++ codes " events\n"

-- what is told before the table
abbrev pub summary : Checked → List ℕ
summary c = migrated_line c ++ run_line c

abbrev pub checked_text : Checked → List ℕ
checked_text c = summary c ++ table_text c.plan c.rows

-- `not a run I`
abbrev pub not_run_text : ℕ → List ℕ
not_run_text i = codes "not a run " ++ decimal i ++ codes "\n"
