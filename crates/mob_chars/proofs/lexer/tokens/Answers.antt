use Rattle.std.proofs.Common.{◌≡◌, ◌∙◌, ◌≤◌, ◌+◌, length, length-drop, drop, Ok, sym, ap, arith}
use Rattle.mob_chars.{specs.Scan.{gap_length}, specs.Tokens.{tokens_of, tokens_from, token_at}, proofs.Walk.{before, before_one, at_gap, at_token, at_fault, at_end, slice_from}}
use Rattle.mob_chars.proofs.lexer.tokens.Goals as goal

pub loop-at-preserved-then-gap-gt0 : goal.loop-at-preserved-then-gap-gt0
loop-at-preserved-then-gap-gt0 c =
    let s = c.as_bytes-bytes.result.now in
    let i = c.loop-at.at in
    let g = c.gap_length-gap.result in
    let long = ap length (slice_from s i) in
    let fits : i + g ≤ length s = omega (arith, c.gap_length-gap.ensures.within, long, length-drop i s) in
    record {
      within = fits;
      so_far = c.loop-at.invariant.so_far ∙ ap (before c.loop-at.found.items) (at_gap s i c.loop-at-test.true g (ap gap_length (sym (slice_from s i)) ∙ sym c.gap_length-gap.ensures.value) c.if-gap-gt0.true fits);
    }

pub returns-in_default-clause-fault : goal.returns-in_default-clause-fault
returns-in_default-clause-fault c =
    let s = c.as_bytes-bytes.result.now in
    let i = c.loop-at.at in
    let none : c.gap_length-gap.result ≡ 0 = omega arith in
    ap tokens_of (sym c.as_bytes-bytes.ensures.value) ∙ c.loop-at.invariant.so_far
    ∙ ap (before c.loop-at.found.items) (at_fault s i c.loop-at-test.true (ap gap_length (sym (slice_from s i)) ∙ sym c.gap_length-gap.ensures.value ∙ none) (ap token_at (sym (slice_from s i)) ∙ sym c.token_length.ensures.value ∙ c.in_default.is))

pub loop-at-preserved : goal.loop-at-preserved
loop-at-preserved c =
    let s = c.as_bytes-bytes.result.now in
    let i = c.loop-at.at in
    let n = c.in-Some.size in
    let long = ap length (slice_from s i) in
    let none : c.gap_length-gap.result ≡ 0 = omega arith in
    let fits : i + n ≤ length s = omega (arith, c.in-Some.ensures.within.1, long, length-drop i s) in
    record {
      within = fits;
      so_far = c.loop-at.invariant.so_far ∙ ap (before c.loop-at.found.items) (at_token s i c.loop-at-test.true c.in-Some.kind n (ap gap_length (sym (slice_from s i)) ∙ sym c.gap_length-gap.ensures.value ∙ none)
          (ap token_at (sym (slice_from s i)) ∙ sym c.token_length.ensures.value ∙ c.in-Some.is) c.in-Some.ensures.within.0 fits)
          ∙ before_one c.loop-at.found.items _ (tokens_from (drop (i + n) s) (i + n) 0)
          ∙ ap (λ ts. before ts (tokens_from (drop (i + n) s) (i + n) 0)) (sym c.in_ok-push.ensures.items);
    }

pub returns-clause-all : goal.returns-clause-all
returns-clause-all c =
    let s = c.as_bytes-bytes.result.now in
    let i = c.loop-at.at in
    ap tokens_of (sym c.as_bytes-bytes.ensures.value) ∙ c.loop-at.invariant.so_far
    ∙ ap (before c.loop-at.found.items) (at_end s i c.loop-at-test.false) ∙ ap Ok (sym c.in_ok-push-2.ensures.items ∙ sym c.from_vec.ensures.same)
