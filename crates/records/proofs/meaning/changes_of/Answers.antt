use Rattle.std.proofs.Common.{◌∙◌, ap, sym, subst}
use Rattle.records.specs.Events.{FindsMeant, place_of, put_of, FindsChanges}
use Rattle.records.proofs.ReadingLoop.{means_put, means_drop, means_both}
use Rattle.records.proofs.meaning.changes_of.Goals as goal

pub returns-in-None-Some : goal.returns-in-None-Some
returns-in-None-Some c =
    let old = sym (ap (λ e. e.entries.old_entry) c.event.view_is) ∙ c.in-None-Some.is-0 in
    let new = sym (ap (λ e. e.entries.new_entry) c.event.view_is) ∙ c.in-None-Some.is-1 in
    subst (λ meant. FindsChanges meant c.put_alone.result) (means_put c.args.event.now c.directory_of.result.now c.in-None-Some.new old new c.directory_of.ensures)
    (c.put_alone.ensures (put_of c.directory_of.result.now c.in-None-Some.new) c.put_in.ensures)

pub returns-in-Some-None : goal.returns-in-Some-None
returns-in-Some-None c =
    let old = sym (ap (λ e. e.entries.old_entry) c.event.view_is) ∙ c.in-Some-None.is-0 in
    let new = sym (ap (λ e. e.entries.new_entry) c.event.view_is) ∙ c.in-Some-None.is-1 in
    subst (λ meant. FindsChanges meant c.drop_alone.result) (means_drop c.args.event.now c.in-Some-None.old old new)
    (c.drop_alone.ensures (place_of c.args.event.now.fields.directory c.in-Some-None.old)
    (subst (λ d. FindsMeant (place_of d c.in-Some-None.old) c.place_in.result) (ap (λ e. e.fields.directory) c.event.view_is) c.place_in.ensures))

pub returns-in-Some-Some : goal.returns-in-Some-Some
returns-in-Some-Some c =
    let old = sym (ap (λ e. e.entries.old_entry) c.event.view_is) ∙ c.in-Some-Some.is-0 in
    let new = sym (ap (λ e. e.entries.new_entry) c.event.view_is) ∙ c.in-Some-Some.is-1 in
    let to = c.directory_of-in-Some-Some.result.now in
    subst (λ meant. FindsChanges meant c.drop_and_put.result) (means_both c.args.event.now to c.in-Some-Some.old c.in-Some-Some.new old new c.directory_of-in-Some-Some.ensures)
    (c.drop_and_put.ensures (place_of c.args.event.now.fields.directory c.in-Some-Some.old) (put_of to c.in-Some-Some.new)
    (subst (λ d. FindsMeant (place_of d c.in-Some-Some.old) c.place_in-path.result) (ap (λ e. e.fields.directory) c.event.view_is) c.place_in-path.ensures) c.put_in-in-Some-Some.ensures)
