use Rattle.std.proofs.Common.{◌≡◌, ◌≢◌, ◌++◌, ◌∙◌, [], List, length, ap, rules, ℕ}
use Rattle.std.proofs.lemmas.List.{nil_from_length}
use Rattle.cap_json.specs.Members.{filled}
use Rattle.cap_json.proofs.MemberLemmas.{appended, members_more, members_none}
use Rattle.cap_json.proofs.members.push_members.Goals as goal

pub loop-group-preserved : goal.loop-group-preserved
loop-group-preserved c =
    let some : c.loop-group.rest.now ≢ [] = search rules in
    let member = c.member_of-member.result in
    let with_is = c.in_ok-push_filled.ensures.ok
    ∙ ap (λ (form : List ℕ). c.push_between.new.object.items ++ filled form member.values.now) c.as_bytes.ensures.value in
    members_more c.loop-group.last member.place c.loop-group.group.now c.loop-group.rest.now c.cut.result.0.now c.cut.result.1.now
    c.cut-in-loop-group.result.0.now member.form.now member.values.now some c.cut.ensures.before c.cut.ensures.after
    c.cut-in-loop-group.ensures.before c.member_of-member.ensures.value c.loop-group.object.items c.push_between.new.object.items
    c.push_filled.new.object.items c.in_ok-push_between.ensures.ok with_is
    ∙ c.loop-group.invariant

pub returns : goal.returns
returns c =
    let empty : length c.loop-group.rest.now ≡ 0 = search rules in
    let none = nil_from_length c.loop-group.rest.now empty in
    let whole = ap (λ (text : List ℕ). c.loop-group.object.items ++ text)
    (c.closing.ensures.value ∙ members_none c.loop-group.last c.loop-group.group.now c.loop-group.rest.now none)
    ∙ c.loop-group.invariant in
    record {
      ok = appended c.extend_from_slice.result c.loop-group.object.items c.closing.result.now _ _ c.extend_from_slice.ensures.items whole;
    }
