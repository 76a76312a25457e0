use Rattle.std.proofs.Common.{arith}
use Rattle.std.proofs.lemmas.List.{length-drop}
use Rattle.weed_base.proofs.ReadLemmas.{reads_on_told}
use Rattle.real_forms.proofs.folder.read_full.Goals as goal

pub loop-count-preserved : goal.loop-count-preserved
loop-count-preserved g c =
    let done = c.loop-count.count in
    let room = c.read_behind.new.room in
    record {
      within = omega (arith, length-drop done room, c.in_ok-got.ensures.bound, c.if-got-eq0.false);
      read = reads_on_told (g.F.SystemFile.bytes c.args.file.now) c.loop-count.room room c.args.at c.saturating_add-from.result done c.in_ok-got.got
          (omega (arith, c.saturating_add-from.ensures, c.if-from-gt-MAX_END.false)) c.loop-count.invariant.read c.in_ok-got.ensures.front c.in_ok-got.ensures.read;
    }
