use Rattle.std.proofs.Common.{rules, sym, subst, not}
use Rattle.std.proofs.lemmas.Map.Made.{filter_same_pairs}
use Rattle.name_core.specs.Namespace.{is_within}
use Rattle.name_core.specs.Pages.{AreNamed}
use Rattle.weed_command.proofs.NameLemmas.{left_by_drop, drop_keeps}
use Rattle.weed_command.proofs.name_table.NameTable.remove_within.Goals as goal

pub invariant_of-self : goal.invariant_of-self
invariant_of-self c =
    let left = filter_same_pairs _ (λ e. not (is_within c.args.top.now e.0)) _ (λ k v b w f' t. search rules) _ _ c.retain.ensures.filtered in record {
      kept = subst AreNamed (sym (left_by_drop c.args.self.now.entries.entries c.retain.new.self.entries c.args.top.now left))
          (drop_keeps c.args.top.now _ c.args.self.now.kept);
    }

pub returns-clause-names : goal.returns-clause-names
returns-clause-names c =
    let left = filter_same_pairs _ (λ e. not (is_within c.args.top.now e.0)) _ (λ k v b w f' t. search rules) _ _ c.retain.ensures.filtered in
    left_by_drop c.args.self.now.entries.entries c.retain.new.self.entries c.args.top.now left
