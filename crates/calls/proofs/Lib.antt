mod Fields
mod FieldKinds
mod Joins
mod RoundTrips
mod Orders
