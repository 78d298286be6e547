use Rattle.std.proofs.Common.{refl}
use Rattle.proof_check.proofs.HearLemmas.{hears_by, regions_join, torches_join, regions_stay, torches_stay}
use Rattle.proof_check.proofs.judge.Judge.judge_line.Goals as goal

pub returns-in-Dark : goal.returns-in-Dark
returns-in-Dark c = hears_by c.args.kind c.args.numbers.now c.args.line c.args.self.now _ refl
    c.in_ok-judge_node_line.ensures.judges c.in_ok-judge_node_line.ensures.wide
    (λ all a. torches_stay all c.args.kind c.args.numbers.now c.args.self.now.torches
    (λ e. (let d = c.in-Dark.is in cc)) a)
    (λ all a. regions_join all c.args.kind c.args.numbers.now c.args.self.now.regions c.join.new.self c.in-Dark.is
    c.join.ensures a) refl c.join.ensures.whole

pub returns-in-Torches : goal.returns-in-Torches
returns-in-Torches c = hears_by c.args.kind c.args.numbers.now c.args.line c.args.self.now _ refl
    c.in_ok-judge_node_line.ensures.judges c.in_ok-judge_node_line.ensures.wide
    (λ all a. torches_join all c.args.kind c.args.numbers.now c.args.self.now.torches c.join-in-Torches.new.self
    c.in-Torches.is c.join-in-Torches.ensures a)
    (λ all a. regions_stay all c.args.kind c.args.numbers.now c.args.self.now.regions
    (λ e. (let d = c.in-Torches.is in cc)) a) c.join-in-Torches.ensures.whole refl

pub returns-in_default : goal.returns-in_default
returns-in_default c = hears_by c.args.kind c.args.numbers.now c.args.line c.args.self.now _ refl
    c.in_ok-judge_node_line.ensures.judges c.in_ok-judge_node_line.ensures.wide
    (λ all a. torches_stay all c.args.kind c.args.numbers.now c.args.self.now.torches c.in_default.not-Torches a)
    (λ all a. regions_stay all c.args.kind c.args.numbers.now c.args.self.now.regions c.in_default.not-Dark a) refl refl
