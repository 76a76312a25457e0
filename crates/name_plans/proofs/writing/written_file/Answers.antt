use Rattle.std.proofs.Common.{◌≤◌, ◌∙◌, length, sym, subst, arith}
use Rattle.std.proofs.lemmas.Bool.{ltb-false}
use Rattle.entry.specs.Entry.{IsValid}
use Rattle.name_plans.specs.Written.{written_of}
use Rattle.name_plans.specs.Writing.{chunks_after}
use Rattle.name_plans.proofs.Writes.{file_is_valid}
use Rattle.name_plans.proofs.writing.written_file.Goals as goal

pub returns-clause-valid : goal.returns-clause-valid
returns-clause-valid c =
    let count = c.chunk_count.ensures c.args.time in
    let few : length (chunks_after c.args.time c.args.old (written_of c.args.writing.now)) ≤ 65536 = omega arith in
    subst IsValid (sym c.in_ok-made_file.ensures)
    (file_is_valid c.args.time c.args.old (written_of c.args.writing.now) c.requires.write c.requires.valid (ltb-false _ _ (sym c.is_past_end.ensures ∙ c.if-is_past_end.false)) few)
