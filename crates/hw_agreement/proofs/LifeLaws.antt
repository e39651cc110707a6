-- Validators that lived through stops and starts are no culprits, and agree.
use Rattle.std.proofs.Common.{◌≡◌, ℕ, List, [], ◌∷◌, ◌++◌, inl, inr, sym, ap, subst, ◌∙◌}
use Rattle.hw_types.specs.declared.unit.WireUnit.{WireUnit}
use Rattle.hw_types.specs.Below.{Among}
use Rattle.hw_types.specs.Journal.{journal_of}
use Rattle.hw_culprits.proofs.InnocenceLaws.{not_named, agree}
use Rattle.hw_session.specs.Node.{IsSound}
use Rattle.hw_session.specs.Standing.{Standing}
use Rattle.hw_run_laws.specs.Calls.{IsReady, AreCalls}
use Rattle.hw_run_laws.proofs.CallLaws.{calls_keep, calls_apart}
use Rattle.hw_agreement.specs.Lives.{Life, WhoLivedSignsOnce, NoInnocentIsNamed, HostsAgree}

pub signs_once : WhoLivedSignsOnce
signs_once journal me lived x y m n by also number =
    let l = lived.life in
    let p = lived.own x m by in
    let q = lived.own y n also in
    let a = p.2 in
    let b = q.2 in
    let one : a.2.unit ≡ b.2.unit = calls_apart me l.first l.more l.validator l.sound l.ready l.calls a.0 b.0 (p.0, p.1, a.1) (q.0, q.1, b.1) a.2 b.2 a.3 b.3
    (ap (λ (u : WireUnit). u.creator) a.4 ∙ by) (ap (λ (u : WireUnit). u.creator) b.4 ∙ also)
    (ap (λ (u : WireUnit). u.seq) a.4 ∙ number ∙ ap (λ (u : WireUnit). u.seq) (sym b.4)) in
    sym a.4 ∙ one ∙ b.4

pub no_innocent : NoInnocentIsNamed
no_innocent s left right me lived m = not_named s left right me (signs_once (left ++ right) me lived) m

pub hosts_agree : HostsAgree
hosts_agree s left right honest are dl dr decided_l decided_r v is =
    agree s left right honest (λ w h. signs_once (journal_of s left ++ journal_of s right) w (are.lived w h)) are.few dl dr decided_l decided_r v is

-- ---- each moment of a life

calls_sound : (me : ℕ) (a : Standing) (more : List Standing) → AreCalls me a more → (b : Standing) → Among b more → IsSound b.node
calls_sound me a [] calls b m = absurd m
calls_sound me a (c ∷ more) (call, next, rest) b (inl is) = subst (λ (d : Standing). IsSound d.node) is next
calls_sound me a (c ∷ more) (call, next, rest) b (inr m) = calls_sound me c more rest b m

pub at_sound : (me : ℕ) (l : Life me) (b : Standing) → Among b (l.first ∷ l.more) → IsSound b.node
at_sound me l b (inl is) = subst (λ (d : Standing). IsSound d.node) is l.sound
at_sound me l b (inr m) = calls_sound me l.first l.more l.calls b m

pub at_ready : (me : ℕ) (l : Life me) (b : Standing) → Among b (l.first ∷ l.more) → IsReady me b
at_ready me l b (inl is) = subst (IsReady me) is l.ready
at_ready me l b (inr m) = calls_keep me l.first l.more l.validator l.sound l.ready l.calls b m
