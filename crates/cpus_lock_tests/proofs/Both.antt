-- The passes of a lock for two cores.
use Rattle.std.proofs.Common.{◌≡◌, ℕ, zero, suc, ◌<◌, [], ◌∷◌, arith}
use Rattle.std.specs.List.{Contains}
use Rattle.std.proofs.lemmas.List.Elements.{All-cons, All-nil}
use Rattle.cpus_lock.specs.Passes.{Lock, LockPass, cores_of, AreAllPasses}

pub both_are_all : (lock : Lock) (a b : LockPass) → a.lock ≡ lock → b.lock ≡ lock → a.known.core ≡ 0 → b.known.core ≡ 1 → lock.cores ≡ 2 → AreAllPasses lock (a ∷ b ∷ [])
both_are_all lock a b a_of b_of a_is b_is count = record {
  of_lock = All-cons (λ (p : LockPass). p.lock ≡ lock) a (b ∷ []) a_of (All-cons (λ (p : LockPass). p.lock ≡ lock) b [] b_of (All-nil (λ (p : LockPass). p.lock ≡ lock)));
  all_cores = at_core;
}
  where
    at_core : (core : ℕ) → core < lock.cores → Contains (cores_of (a ∷ b ∷ [])) core
    at_core zero less = (0, omega arith, a_is)
    at_core (suc zero) less = (1, omega arith, b_is)
    at_core (suc (suc core)) less = absurd (omega (arith, less, count))
