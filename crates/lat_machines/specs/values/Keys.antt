-- The key of a request.
use Rattle.std.specs.Prelude.{ℕ, Bool, ◌&&◌, nat_eq}
use Rattle.lat_machines.specs.values.Names.{Name, same}

pub record Key : Type 0 where
  pub node : Name
  pub incarnation : ℕ
  pub request : ℕ

abbrev pub same_key : Key → Key → Bool
same_key a b = same a.node b.node && (nat_eq a.incarnation b.incarnation && nat_eq a.request b.request)
