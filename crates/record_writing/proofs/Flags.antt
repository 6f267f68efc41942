-- The bits of a capability's third byte: put together and taken apart again they are the same, both ways.
use mathlib.Core.Path.{◌≡◌, refl}
use mathlib.Core.Bool.{Bool, true, false}
use mathlib.Core.List.{List}
use Prim.Native.Nat.{ℕ, zero, suc, ◌+◌, ◌*◌, ◌/◌, ◌%◌, ◌<◌}
use native.Mathlib.Omega.{arith}
use lib.Dec.{eqb}
use lib.ListN.{get_or}
use Rattle.records.specs.declared.ByteCounterUnits.{ByteCounterUnits}
use Rattle.records.specs.declared.Profile2ApCapability.{Profile2ApCapability}
use Rattle.records.specs.Values.{units_of, units_code, bit, flags_of, capability_in_lem}

pub units_small : (u : ByteCounterUnits) → (units_code u < 4) × (units_of (units_code u) ≡ u)
units_small ByteCounterUnits.Bytes = (omega arith, refl)
units_small ByteCounterUnits.KiB = (omega arith, refl)
units_small ByteCounterUnits.MiB = (omega arith, refl)
units_small ByteCounterUnits.Reserved = (omega arith, refl)

bit_small : (f : Bool) → (bit f < 2) × (eqb (bit f) 1 ≡ f)
bit_small true = (omega arith, refl)
bit_small false = (omega arith, refl)

pub units_code_lem : (n : ℕ) → n < 4 → units_code (units_of n) ≡ n
units_code_lem zero h = refl
units_code_lem (suc zero) h = refl
units_code_lem (suc (suc zero)) h = refl
units_code_lem (suc (suc (suc zero))) h = refl
units_code_lem (suc (suc (suc (suc n)))) h = absurd (omega arith)

bit_code : (n : ℕ) → n < 2 → bit (eqb n 1) ≡ n
bit_code zero h = refl
bit_code (suc zero) h = refl
bit_code (suc (suc n)) h = absurd (omega arith)

-- the capability that stands in the bytes of a capability
pub flags_read : (c : Profile2ApCapability) (s : List ℕ) → c.flags_reserved < 8 → get_or s 0 0 ≡ c.max_prioritization_rules → get_or s 1 0 ≡ c.reserved → get_or s 2 0 ≡ flags_of c → get_or s 3 0 ≡ c.max_vids → capability_in_lem s ≡ c
flags_read c s h s0 s1 s2 s3 =
    let u = units_small c.byte_counter_units in
    let p = bit_small c.prioritization in
    let o = bit_small c.dpp_onboarding in
    let t = bit_small c.traffic_separation in
    let f = flags_of c in
    let e1 : f / 64 ≡ units_code c.byte_counter_units = omega (arith, u.0, p.0, o.0, t.0) in
    let e2 : f / 32 % 2 ≡ bit c.prioritization = omega (arith, u.0, p.0, o.0, t.0) in
    let e3 : f / 16 % 2 ≡ bit c.dpp_onboarding = omega (arith, u.0, p.0, o.0, t.0) in
    let e4 : f / 8 % 2 ≡ bit c.traffic_separation = omega (arith, u.0, p.0, o.0, t.0) in
    let e5 : f % 8 ≡ c.flags_reserved = omega (arith, u.0, p.0, o.0, t.0) in
    simp (s0, s1, s2, s3, e1, e2, e3, e4, e5, u.1, p.1, o.1, t.1)

-- a byte is the sum of its parts
parts : (d : ℕ) → d / 64 * 64 + d / 32 % 2 * 32 + d / 16 % 2 * 16 + d / 8 % 2 * 8 + d % 8 ≡ d
parts d =
    let s1 : d / 32 ≡ d / 64 * 2 + d / 32 % 2 = omega arith in
    let s2 : d / 16 ≡ d / 32 * 2 + d / 16 % 2 = omega arith in
    let s3 : d / 8 ≡ d / 16 * 2 + d / 8 % 2 = omega arith in
    omega arith

-- the third byte of the capability that stands in some bytes is the third of them: no bit is lost
pub flags_kept : (s : List ℕ) → get_or s 2 0 < 256 → flags_of (capability_in_lem s) ≡ get_or s 2 0
flags_kept s h =
    let d = get_or s 2 0 in
    let low : d % 8 % 8 ≡ d % 8 = omega arith in
    simp (units_code_lem (d / 64) (omega arith), bit_code (d / 32 % 2) (omega arith), bit_code (d / 16 % 2) (omega arith), bit_code (d / 8 % 2) (omega arith), low) (parts d)
