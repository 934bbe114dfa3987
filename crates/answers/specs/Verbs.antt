-- The commands and the kinds, by their words.
use Rattle.std.specs.Prelude.{ℕ, if◌then◌else◌, List, Some, None, codes, Option}
use Rattle.std.specs.Str.{bytes_eq}
use Rattle.answers.specs.declared.verb.Verb.{Verb}
use Rattle.answers.specs.declared.verb.SiteVerb.{SiteVerb}
use Rattle.answers.specs.declared.verb.HeldVerb.{HeldVerb}
use Rattle.answers.specs.declared.verb.CallVerb.{CallVerb}
use Rattle.answers.specs.declared.verb.KindName.{KindName}

abbrev pub verb_of : List ℕ → Option Verb
verb_of w =
    if bytes_eq w (codes "net") then Some Verb.Net else
    (if bytes_eq w (codes "kind") then Some (Verb.Site SiteVerb.Kind) else
    (if bytes_eq w (codes "grades") then Some (Verb.Site (SiteVerb.Held HeldVerb.Grades)) else
    (if bytes_eq w (codes "list") then Some (Verb.Site (SiteVerb.Held HeldVerb.List)) else
    (if bytes_eq w (codes "path") then Some (Verb.Site SiteVerb.Path) else
    (if bytes_eq w (codes "start") then Some (Verb.Site (SiteVerb.Held (HeldVerb.Call CallVerb.Start))) else
    (if bytes_eq w (codes "work") then Some (Verb.Site (SiteVerb.Held (HeldVerb.Call CallVerb.Work))) else
    (if bytes_eq w (codes "regrade") then Some (Verb.Site (SiteVerb.Held (HeldVerb.Call CallVerb.Regrade))) else
    (if bytes_eq w (codes "ask") then Some (Verb.Site (SiteVerb.Held (HeldVerb.Call CallVerb.Ask))) else
    (if bytes_eq w (codes "route") then Some (Verb.Site (SiteVerb.Held (HeldVerb.Call CallVerb.Route))) else
    (if bytes_eq w (codes "check") then Some (Verb.Site (SiteVerb.Held HeldVerb.Check)) else
    (if bytes_eq w (codes "labels") then Some (Verb.Site (SiteVerb.Held HeldVerb.Labels)) else
    (if bytes_eq w (codes "entries") then Some (Verb.Site (SiteVerb.Held HeldVerb.Entries)) else
    (if bytes_eq w (codes "poke") then Some (Verb.Site (SiteVerb.Held HeldVerb.Poke)) else
    (if bytes_eq w (codes "resize") then Some (Verb.Site (SiteVerb.Held HeldVerb.Resize)) else
    (if bytes_eq w (codes "enter") then Some (Verb.Site (SiteVerb.Held HeldVerb.Enter)) else
    (if bytes_eq w (codes "pick") then Some (Verb.Site (SiteVerb.Held HeldVerb.Pick)) else
    (if bytes_eq w (codes "empty") then Some (Verb.Site (SiteVerb.Held HeldVerb.Empty)) else
    (if bytes_eq w (codes "waiting") then Some (Verb.Site (SiteVerb.Held HeldVerb.Waiting)) else None))))))))))))))))))

abbrev pub kind_named : List ℕ → Option KindName
kind_named w =
    if bytes_eq w (codes "airtime") then Some KindName.Airtime else
    (if bytes_eq w (codes "chance") then Some KindName.Chance else
    (if bytes_eq w (codes "margin") then Some KindName.Margin else None))
