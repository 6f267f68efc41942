-- A step goes on past a TLV, so fewer bytes are left.
use Rattle.std.proofs.Common.{◌-◌, ◌<◌, ◌∙◌, ap, sym, length, arith, rules}
use Rattle.numbers.specs.Numbers.{gives}
use Rattle.walking.specs.declared.Stepped.{Stepped}
use Rattle.walking.specs.Walk.{ahead_of}
use Rattle.walking.proofs.Stepping.{passes, lasts}
use Rattle.story_lines.proofs.tlvs.TlvsIterator.next.Goals as goal

pub returns-in-Ok-Tlv-clause-goes : goal.returns-in-Ok-Tlv-clause-goes
returns-in-Ok-Tlv-clause-goes c =
    let o = passes _ _ _ _ (ap (λ (s : Stepped). gives (ahead_of s)) (sym c.in-Ok-Tlv.field-0-is) ∙ c.in-Ok-Tlv.ensures) in
    let fewer : length c.args.self.now.message.now - c.in-Ok-Tlv.next < length c.args.self.now.message.now - c.args.self.now.at = omega (arith, o.behind, o.inside) in
    search (rules, fewer)

pub returns-in-Ok-Last-clause-goes : goal.returns-in-Ok-Last-clause-goes
returns-in-Ok-Last-clause-goes c =
    let o = lasts _ _ _ _ (ap (λ (s : Stepped). gives (ahead_of s)) (sym c.in-Ok-Last.field-0-is) ∙ c.in-Ok-Last.ensures) in
    let fewer : length c.args.self.now.message.now - length c.args.self.now.message.now < length c.args.self.now.message.now - c.args.self.now.at = omega (arith, o.behind, o.inside) in
    search (rules, fewer)
