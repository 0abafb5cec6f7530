use Rattle.std.proofs.Common.{ℕ, ◌+◌, ◌*◌, ◌^◌, ◌<◌, ◌≤◌, length, pow-suc, add-one, arith}
use native.Mathlib.Nat.{pow-le-pow_right}
use Rattle.rows.proofs.token.number.Goals as goal

-- one digit more
larger : (n d i : ℕ) → n < 10 ^ i → d ≤ 9 → n * 10 + d < 10 ^ (i + 1)
larger n d i h l = rw (add-one, pow-suc) (omega arith)

-- before the last of at most nine digits there is room for one more
room : (n i k : ℕ) → n < 10 ^ i → i < k → k ≤ 9 → n * 10 + 9 < 1000000000
room n i k h l m = let e : i ≤ 8 = omega arith in omega (arith, pow-le-pow_right {n = 10} (omega arith) e)

pub overflow_mul-value : goal.overflow_mul-value
overflow_mul-value c = omega (arith, room c.loop-b.value c.loop-b.b-index (length c.args.part.now) c.loop-b.invariant.small (omega arith) (omega arith))

pub overflow_add-value : goal.overflow_add-value
overflow_add-value c = omega (arith, room c.loop-b.value c.loop-b.b-index (length c.args.part.now) c.loop-b.invariant.small (omega arith) (omega arith))
