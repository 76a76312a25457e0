use Rattle.name_core.specs.Pages.{IsPage}
use Rattle.sql_keeper.proofs.page.page_of_rows.Given as goal

-- The rows so far are a page.
abbrev pub invariant-loop-row : goal.invariant-loop-row
invariant-loop-row g l = IsPage l.room (g.W.Wanted.belongs l.wanted) l.page.items
