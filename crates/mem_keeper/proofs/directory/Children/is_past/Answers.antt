use Rattle.std.proofs.Common.{◌≡◌, ◌+◌, Some, None, option_copied, sym, ap, ◌∙◌}
use Rattle.std.specs.declared.cmp.Ordering.TheVariants.{Less, Equal, Greater}
use Rattle.std.specs.Ordering.{nat_cmp}
use Rattle.std.specs.Cmp.Lexicographic.{slice_cmp}
use Rattle.mem_keeper.proofs.PlaceLemmas.{past_as, child_name, more_than_one}
use Rattle.mem_keeper.proofs.directory.Children.is_past.Goals as goal

pub returns-in-Less : goal.returns-in-Less
returns-in-Less c =
    let at = past_as c.args.self.now.dir.now c.args.path.now c.in_ok-child.child (c.depth-depth.result + 1) c.in-Some-name.name.now c.in-Some.after.now Less (option_copied c.args.self.now.after)
    c.requires (ap (λ d. d + 1) c.depth-depth.ensures.depth) c.in_ok-child.ensures (sym (ap option_copied c.in-Some-name.is) ∙ c.name.ensures.last) (ap option_copied c.in-Some.is)
    (sym c.in-Less.is ∙ c.cmp.ensures ∙ ap (λ a. slice_cmp nat_cmp a c.in-Some-name.name.now) c.as_slice.ensures) in
    sym at.2

pub returns-in-Equal : goal.returns-in-Equal
returns-in-Equal c =
    let at = past_as c.args.self.now.dir.now c.args.path.now c.in_ok-child.child (c.depth-depth.result + 1) c.in-Some-name.name.now c.in-Some.after.now Equal (option_copied c.args.self.now.after)
    c.requires (ap (λ d. d + 1) c.depth-depth.ensures.depth) c.in_ok-child.ensures (sym (ap option_copied c.in-Some-name.is) ∙ c.name.ensures.last) (ap option_copied c.in-Some.is)
    (sym c.in-Equal.is ∙ c.cmp.ensures ∙ ap (λ a. slice_cmp nat_cmp a c.in-Some-name.name.now) c.as_slice.ensures) in
    sym (at.2 ∙ more_than_one at.0 _ _ (c.depth.ensures.depth ∙ at.1))

pub returns-in-Some-name : goal.returns-in-Some-name
returns-in-Some-name c =
    let at = past_as c.args.self.now.dir.now c.args.path.now c.in_ok-child.child (c.depth-depth.result + 1) c.in-Some-name.name.now c.in-Some.after.now Greater (option_copied c.args.self.now.after)
    c.requires (ap (λ d. d + 1) c.depth-depth.ensures.depth) c.in_ok-child.ensures (sym (ap option_copied c.in-Some-name.is) ∙ c.name.ensures.last) (ap option_copied c.in-Some.is)
    (sym c.in-Greater.is ∙ c.cmp.ensures ∙ ap (λ a. slice_cmp nat_cmp a c.in-Some-name.name.now) c.as_slice.ensures) in
    sym at.2

pub unreachable-requires : goal.unreachable-requires
unreachable-requires c =
    let at = child_name c.args.self.now.dir.now c.args.path.now c.in_ok-child.child (c.depth-depth.result + 1) None
    c.requires (ap (λ d. d + 1) c.depth-depth.ensures.depth) c.in_ok-child.ensures (sym (ap option_copied c.in-None-name.is) ∙ c.name.ensures.last) in
    let wrong : None ≡ Some at.1 = at.2 in cc
