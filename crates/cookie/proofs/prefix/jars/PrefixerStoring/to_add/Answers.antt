use Rattle.cookie.proofs.PrefixLemmas.{shown-added}
use Rattle.cookie.proofs.prefix.jars.PrefixerStoring.to_add.Goals as goal

pub returns-clause-shown : goal.returns-clause-shown
returns-clause-shown g c = λ jar.
    shown-added g.P.Prefix.PREFIX g.P.Prefix.conformed g.met.P.Prefix.keeps_pair c.args.cookie.fields jar
