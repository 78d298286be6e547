use Rattle.std.proofs.Common.{◌≡◌, length, refl, subst, arith}
use Rattle.std.proofs.lemmas.Bool.{false≢true}
use Rattle.set_cover.proofs.ApartLemmas.{HasGrown, grown_none, grown_more, grown_all, met_here}
use Rattle.set_cover.proofs.change.add_words_apart.Goals as goal

pub loop-index-init : goal.loop-index-init
loop-index-init c = grown_none c.args.words.now c.args.row.now c.args.other.now

pub loop-index-preserved : goal.loop-index-preserved
loop-index-preserved c = grown_more c.args.words.now c.args.row.now c.args.other.now c.loop-index.words
    c.loop-index.index (omega arith) c.loop-index.invariant (omega (arith, c.if-words-index-ne0.false))

pub returns-then-words-index-ne0 : goal.returns-then-words-index-ne0
returns-then-words-index-ne0 c = record {
  apart = (
    λ t. absurd (false≢true t),
    λ a. absurd (met_here c.args.words.now c.args.row.now c.args.other.now c.loop-index.words c.loop-index.index
        c.loop-index.invariant (c.type_inv.words c.loop-index.index).fits (c.type_inv.other c.loop-index.index).fits
        (omega (arith, c.if-words-index-ne0.true)) a),
  );
  grown = λ t. absurd (false≢true t);
}

pub returns : goal.returns
returns c =
    let all : c.loop-index.index ≡ length c.args.words.now = omega arith in
    let grown = grown_all c.args.words.now c.args.row.now c.args.other.now c.loop-index.words c.loop-index.auto.words
    c.requires.row (λ k. (c.type_inv.other k).fits)
    (subst (HasGrown c.args.words.now c.args.row.now c.args.other.now c.loop-index.words) all c.loop-index.invariant) in
    record { apart = (λ t. grown.apart, λ a. refl); grown = λ t. grown }
