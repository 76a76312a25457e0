use Rattle.std.proofs.Common.{sym, subst}
use Rattle.std.specs.Prelude.{IfSome}
use Rattle.weed_base.specs.Files.{BothTold}
use Rattle.needle_index.specs.Text.{entry_text}
use Rattle.volume_items.specs.Growing.{Appends, EndsAt, KeepsFront}
use Rattle.volume_items.specs.Changes.{ChangesOnly}
use Rattle.volume.specs.Pieces.{joined}
use Rattle.volume_items.proofs.Growing.{on_ok}
use Rattle.volume.proofs.Grown.{told_behind, told_behind_then, told_grow, told_index_ends}
use Rattle.volume_items.proofs.Told.{moved_both}
use Rattle.volume.proofs.held.Volume.append_files.Goals as goal

pub returns-in_err-append_item-clause-behind : goal.returns-in_err-append_item-clause-behind
returns-in_err-append_item-clause-behind g c =
    let v = c.args.self.now in
    let name = c.file_name.ensures in
    told_behind v.id v.end v.index_end _ _ (subst (λ n. BothTold (KeepsFront n v.end) (g.D.Disk.files c.args.disk.now) (g.D.Disk.files c.append_item.new.disk)) name c.append_item.ensures.front)
    (subst (λ n. BothTold (ChangesOnly n) (g.D.Disk.files c.args.disk.now) (g.D.Disk.files c.append_item.new.disk)) name c.append_item.ensures.others)

pub append_piece-requires : goal.append_piece-requires
append_piece-requires g c =
    let v = c.args.self.now in
    subst (λ n. IfSome (g.D.Disk.files c.append_item.new.disk) (EndsAt n v.index_end)) (sym c.file_name-2.ensures)
    (told_index_ends v.id v.index_end _ _ c.requires.index
    (subst (λ n. BothTold (ChangesOnly n) (g.D.Disk.files c.args.disk.now) (g.D.Disk.files c.append_item.new.disk)) c.file_name.ensures c.append_item.ensures.others))

pub returns-in_err-append_piece-clause-behind : goal.returns-in_err-append_piece-clause-behind
returns-in_err-append_piece-clause-behind g c =
    let v = c.args.self.now in
    let name = c.file_name.ensures in
    told_behind_then v.id v.end v.index_end _ _ _
    (told_behind v.id v.end v.index_end _ _ (subst (λ n. BothTold (KeepsFront n v.end) (g.D.Disk.files c.args.disk.now) (g.D.Disk.files c.append_item.new.disk)) name c.append_item.ensures.front)
    (subst (λ n. BothTold (ChangesOnly n) (g.D.Disk.files c.args.disk.now) (g.D.Disk.files c.append_item.new.disk)) name c.append_item.ensures.others))
    (subst (λ n. BothTold (KeepsFront n v.index_end) (g.D.Disk.files c.append_item.new.disk) (g.D.Disk.files c.append_piece.new.disk)) c.file_name-2.ensures c.append_piece.ensures.front)
    (subst (λ n. BothTold (ChangesOnly n) (g.D.Disk.files c.append_item.new.disk) (g.D.Disk.files c.append_piece.new.disk)) c.file_name-2.ensures c.append_piece.ensures.others)

pub returns-clause-done : goal.returns-clause-done
returns-clause-done g c =
    let v = c.args.self.now in
    on_ok c.sync.result (moved_both _ _ _ _ c.sync.ensures.files
    (told_grow v.id (joined c.args.pieces.now) (entry_text c.args.entry.now) _ _ _
    (subst (λ n. BothTold (Appends n (joined c.args.pieces.now)) (g.D.Disk.files c.args.disk.now) (g.D.Disk.files c.append_item.new.disk)) c.file_name.ensures c.in_ok-append_item.ensures.done)
    (subst (λ n. BothTold (Appends n (entry_text c.args.entry.now)) (g.D.Disk.files c.append_item.new.disk) (g.D.Disk.files c.append_piece.new.disk)) c.file_name-2.ensures
    (subst (λ t. BothTold (Appends c.file_name-2.result t) (g.D.Disk.files c.append_item.new.disk) (g.D.Disk.files c.append_piece.new.disk)) c.write.ensures.text c.in_ok-append_piece.ensures.done))))

pub returns-clause-behind : goal.returns-clause-behind
returns-clause-behind g c =
    let v = c.args.self.now in
    let name = c.file_name.ensures in
    moved_both _ _ _ _ c.sync.ensures.files
    (told_behind_then v.id v.end v.index_end _ _ _
    (told_behind v.id v.end v.index_end _ _ (subst (λ n. BothTold (KeepsFront n v.end) (g.D.Disk.files c.args.disk.now) (g.D.Disk.files c.append_item.new.disk)) name c.append_item.ensures.front)
    (subst (λ n. BothTold (ChangesOnly n) (g.D.Disk.files c.args.disk.now) (g.D.Disk.files c.append_item.new.disk)) name c.append_item.ensures.others))
    (subst (λ n. BothTold (KeepsFront n v.index_end) (g.D.Disk.files c.append_item.new.disk) (g.D.Disk.files c.append_piece.new.disk)) c.file_name-2.ensures c.append_piece.ensures.front)
    (subst (λ n. BothTold (ChangesOnly n) (g.D.Disk.files c.append_item.new.disk) (g.D.Disk.files c.append_piece.new.disk)) c.file_name-2.ensures c.append_piece.ensures.others))
