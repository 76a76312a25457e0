use Rattle.std.proofs.Common.{ℕ, List, inl, subst, sym, ◌∙◌}
use Rattle.std.specs.List.{All}
use Rattle.real_forms.specs.System.{PathCall, OpenedToSettle, Listed, SettleAll, CallFile, path_in}
use Rattle.real_forms.specs.Folder.{IsSettledAt}
use Rattle.real_forms.proofs.FolderLemmas.{makes_along}
use Rattle.real_forms.proofs.ActLemmas.{acts_one, acts_along, acts_among, acts_at}
use Rattle.real_forms.proofs.folder.Folder.open.Goals as goal

pub returns-clause-opened : goal.returns-clause-opened
returns-clause-opened g c =
    let answered : PathCall g.row.F.Denot → Type 0 = g.R.System.answered in
    let settled : List ℕ → Type 0 = λ path. IsSettledAt answered g.R.System.file_answered path in
    let is = c.in_ok-path.ensures in
    let names = c.in_ok-names.names.items in
    let directory = c.in_ok-directory.directory in
    record {
      path = c.in_ok-from_str.ensures.ok ∙ is;
      directory =
          subst (λ (it : g.row.F.Denot). answered (OpenedToSettle c.args.path.now it)) (sym c.new.ensures.directory)
          (subst (λ (path : List ℕ). answered (OpenedToSettle path directory)) is c.in_ok-directory.ensures);
      names = subst (λ (it : g.row.F.Denot). g.R.System.file_answered SettleAll it) (sym c.new.ensures.directory) c.in_ok-settle_all.ensures.settled;
      files = (
        names,
        subst (λ (path : List ℕ). answered (Listed path names)) is c.in_ok-names.ensures.listed,
        subst (λ (path : List ℕ). All (λ name. settled (path_in path name)) names) is
            (subst (λ (items : List (List ℕ)). All (λ name. settled (path_in c.in_ok-path.path.now name)) items) c.as_slice.ensures.value c.in_ok-settle_each.ensures.settled),
      );
      closed = c.new.ensures.files;
      named = c.new.ensures.names;
    }

pub returns-in_err-settle_each-clause-acts : goal.returns-in_err-settle_each-clause-acts
returns-in_err-settle_each-clause-acts g c =
    let one_act = g.R.System.one_act in
    acts_along one_act (acts_at one_act c.in_ok-path.ensures c.make_folder.ensures.acts) (acts_among one_act (λ act settling. inl settling) c.settle_each.ensures.acts)

pub returns-in_err-settle_all-clause-acts : goal.returns-in_err-settle_all-clause-acts
returns-in_err-settle_all-clause-acts g c =
    let one_act = g.R.System.one_act in
    acts_along one_act (acts_along one_act (acts_at one_act c.in_ok-path.ensures c.make_folder.ensures.acts) (acts_among one_act (λ act settling. inl settling) c.settle_each.ensures.acts))
    (acts_one one_act (CallFile _ SettleAll) (inl tt) c.settle_all.ensures.once)

pub returns-in_err-from_str-clause-acts : goal.returns-in_err-from_str-clause-acts
returns-in_err-from_str-clause-acts g c =
    let one_act = g.R.System.one_act in
    acts_along one_act (acts_along one_act (acts_at one_act c.in_ok-path.ensures c.make_folder.ensures.acts) (acts_among one_act (λ act settling. inl settling) c.settle_each.ensures.acts))
    (acts_one one_act (CallFile _ SettleAll) (inl tt) c.settle_all.ensures.once)

pub returns-clause-acts : goal.returns-clause-acts
returns-clause-acts g c =
    let one_act = g.R.System.one_act in
    acts_along one_act (acts_along one_act (acts_at one_act c.in_ok-path.ensures c.make_folder.ensures.acts) (acts_among one_act (λ act settling. inl settling) c.settle_each.ensures.acts))
    (acts_one one_act (CallFile _ SettleAll) (inl tt) c.settle_all.ensures.once)

pub returns-clause-made : goal.returns-clause-made
returns-clause-made g c =
    let one_done = g.R.System.one_done in
    makes_along one_done g.R.System.answered g.R.System.file_answered c.in_ok-path.ensures c.in_ok-make_folder.ensures.made
    (acts_along one_done c.in_ok-settle_each.ensures.done (acts_one one_done (CallFile _ SettleAll) tt c.in_ok-settle_all.ensures.done))
