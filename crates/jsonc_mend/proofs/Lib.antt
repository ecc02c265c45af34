mod KnownPlaces
mod Rewriting
