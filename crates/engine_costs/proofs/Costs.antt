-- The sum that a latency is made of.
use Prim.Native.Nat.{ℕ, ◌+◌, ◌-◌, ◌*◌, ◌≤◌}
use native.Mathlib.Omega.{arith}
use mathlib.Core.Path.{◌≡◌}
use lib.ListN.{length}
use Rattle.plan_values.specs.declared.Platform.{Platform}
use Rattle.plan_values.specs.declared.Flow.{Flow}
use Rattle.plan.specs.Legal.{LegalPlatform, LegalFlow}
use Rattle.model.specs.Links.{route_of}
use Rattle.model.specs.Latency.{flits_sent, latency}
use Rattle.model.proofs.Links.{route_within}

module _ {p : Platform} {f : Flow} (a : LegalPlatform p) (w : LegalFlow p f) {links : ℕ} (e : links ≡ length (route_of p f)) where
  pub links_some : (3 ≤ links) × (links ≤ 16)
  links_some = omega (arith, route_within a w)

  module _ {flits : ℕ} (g : flits ≡ flits_sent p f) where
    sent : flits + (links - 1) ≡ flits_sent p f + length (route_of p f) - 1
    sent = omega (arith, links_some)

    pub latency_is : {link routing : ℕ} → link ≡ p.link → routing ≡ p.routing → link * (flits + (links - 1)) + routing * (links - 1) ≡ latency p f
    unfolding latency
    latency_is l r = rw (sent, l, r, e)
